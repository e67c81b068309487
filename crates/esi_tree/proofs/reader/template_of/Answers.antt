use Rattle.std.proofs.Common.{◌≡◌, ◌≤◌, ℕ, Bool, true, false, List, ◌∷◌, [], length, drop, Option, Some, None, Result, Ok, refl, sym, ◌∙◌, ap, subst, arith}
use Rattle.esi_scanner.specs.declared.token.Token.{Token}
use Rattle.esi_scanner.specs.Scan.{scan_of}
use Rattle.esi_tree.specs.Tree.{Element, Elements}
use Rattle.esi_tree.specs.Answer.{Gives}
use Rattle.esi_tree.specs.Items.{item_of}
use Rattle.esi_tree.specs.State.{state_of, some_if}
use Rattle.esi_tree.specs.Reading.{Frame, State, after, ended, read_from, tree_of_tokens, of_tokens, tree_of, HasText}
use Rattle.esi_tree.proofs.DepthRead.{depth_tokens}
use Rattle.esi_tree.proofs.ReadingLemmas.{read_from-step, read_from-fault, read_from-end}
use Rattle.esi_tree.proofs.reader.template_of.Goals as goal

pub loop-token-init : goal.loop-token-init
unfolding tree_of_tokens
loop-token-init c = rw c.new-reader.ensures refl

-- a template goes on, or none does
goes : (goes_on : Bool) (next : State) (read : Option State) → goes_on ≡ true → some_if goes_on next ≡ read → read ≡ Some next
goes goes_on next read so is = sym is ∙ ap (λ b. some_if b next) so

stops : (goes_on : Bool) (next : State) (read : Option State) → goes_on ≡ false → some_if goes_on next ≡ read → read ≡ None
stops goes_on next read so is = sym is ∙ ap (λ b. some_if b next) so

pub loop-token-preserved : goal.loop-token-preserved
loop-token-preserved c =
    let text = c.args.text.now in
    let tokens = c.args.tokens.now in
    let state = state_of c.loop-token.reader in
    let next = state_of c.after.new.self in
    let step = goes c.in_ok-after.field-0 next (after (item_of text c.token-item.result) state) c.if-not-branch.false c.in_ok-after.ensures in
    sym (read_from-step text tokens c.loop-token.token-index c.token-item.result state next (omega arith) c.token-item.is step) ∙ c.loop-token.invariant

pub returns-then-not-branch : goal.returns-then-not-branch
returns-then-not-branch c =
    let text = c.args.text.now in
    let state = state_of c.loop-token.reader in
    let next = state_of c.after.new.self in
    let step = stops c.in_ok-after.field-0 next (after (item_of text c.token-item.result) state) c.if-not-branch.true c.in_ok-after.ensures in
    sym c.loop-token.invariant ∙ read_from-fault text c.args.tokens.now c.loop-token.token-index c.token-item.result state (omega arith) c.token-item.is step

-- what is left at the end is what was to be read
whole : (text : List ℕ) (tokens : List Token) (i : ℕ) (state : State) → length tokens ≤ i → read_from text (drop i tokens) state ≡ tree_of_tokens text tokens
    → ended state.frames state.content (length text) ≡ tree_of_tokens text tokens
whole text tokens i state past is = sym (read_from-end text tokens i state past) ∙ is

-- the place of a fault changes no depth
any-end : (frames : List Frame) (content : List Element) (end other : ℕ) (t : Elements) → ended frames content end ≡ Ok t → ended frames content other ≡ Ok t
any-end [] content end other t is = is
any-end (frame ∷ outer) content end other t is = absurd (cc)

-- what is read of the tokens of a text is its tree
written : (text : List ℕ) (tokens : List Token) (t : Elements) → scan_of text ≡ Ok tokens → tree_of_tokens text tokens ≡ Ok t → HasText t
unfolding tree_of
written text tokens t scanned read = ∣ (text, ap (of_tokens text) scanned ∙ read) ∣₁

pub ended-requires : goal.ended-requires
ended-requires c =
    let text = c.args.text.now in
    let tokens = c.args.tokens.now in
    let state = state_of c.loop-token.reader in
    λ end t is.
    let read = sym (whole text tokens c.loop-token.token-index state (omega arith) c.loop-token.invariant) ∙ any-end state.frames state.content end (length text) t is in
    (depth_tokens text tokens t read, written text tokens t c.requires read)

pub returns : goal.returns
returns c =
    let text = c.args.text.now in
    let P : Result Elements ℕ → Type 0 = λ read. Gives c.ended.result read in
    subst P (ap (ended (state_of c.loop-token.reader).frames (state_of c.loop-token.reader).content) c.len-end.ensures ∙ whole text c.args.tokens.now c.loop-token.token-index (state_of c.loop-token.reader) (omega arith) c.loop-token.invariant) c.ended.ensures
