-- Which tokens stand before a place, and what has been read behind them.
use Rattle.std.proofs.Common.{◌≡◌, ℕ, ◌+◌, ◌<◌, ◌≤◌, Bool, true, false, nat_lt, lt-ltb, ltb-true, List, [], ◌∷◌, ◌++◌, length, length-append, take, drop, reverse, Option, Some, None, refl, ◌∙◌, ap, arith}
use Rattle.std.proofs.lemmas.List.{take_all, take_at, drop_all, drop_at}
use Rattle.std.proofs.lemmas.Option.{option_and_then_some}
use mathlib.Core.List.{reverse_aux}
use Rattle.esi_scanner.specs.declared.token.Token.{Token}
use Rattle.esi_scanner.specs.Bytes.{◌>>=◌}
use Rattle.esi_scanner.specs.Spelling.{SpellsTo}
use Rattle.esi_scanner.proofs.TokenSpelling.{spelled-some}
use Rattle.esi_tree.specs.Items.{item_of, items_of}
use Rattle.esi_tree.specs.Reading.{State, after}
use Rattle.esi_tree.proofs.Runs.{steps}
use Rattle.template_check.specs.Reasons.{count_before, first_reason, reason_of}
use Rattle.template_check.specs.Refusals.{state_behind}

one-more : (text : List ℕ) (token : Token) (before : List Token) (state next : State) → state_behind text before ≡ Some state → after (item_of text token) state ≡ Some next → state_behind text (token ∷ before) ≡ Some next
unfolding state_behind
one-more text token before state next read step = ap (λ o. o >>= λ s. after (item_of text token) s) read ∙ step

read-behind : (text : List ℕ) (front before : List Token) (state final : State) → state_behind text before ≡ Some state → steps (items_of text front) state ≡ Some final → state_behind text (reverse_aux front before) ≡ Some final
read-behind text [] before state final read e = read ∙ e
read-behind text (token ∷ front) before state final read e =
    option_and_then_some (λ s. steps (items_of text front) s) (after (item_of text token) state) final e
    (λ next first rest. read-behind text front (token ∷ before) next final (one-more text token before state next read first) rest)

pub read-is : (text : List ℕ) (front : List Token) (state final : State) → state_behind text [] ≡ Some state → steps (items_of text front) state ≡ Some final → state_behind text (reverse front) ≡ Some final
read-is text front state final begun e = read-behind text front [] state final begun e

not-before : (n : ℕ) → nat_lt n n ≡ false
not-before n = by_test (nat_lt n n) refl
  where
    by_test : (b : Bool) → nat_lt n n ≡ b → nat_lt n n ≡ false
    by_test true e = let less = ltb-true n n e in absurd (omega arith)
    by_test false e = e

counted : (token : Token) (tokens : List Token) (place n : ℕ) → token.span.start < place → count_before tokens place ≡ n → count_before (token ∷ tokens) place ≡ n + 1
counted token tokens place n less is = rw (lt-ltb token.span.start place less) (omega (arith, is))

passed-over : (token : Token) (tokens : List Token) → count_before (token ∷ tokens) token.span.start ≡ 0
passed-over token tokens = rw (not-before token.span.start) refl

-- the tokens before one that stands there are those that begin before its place
count-front : (block : Option ℕ) (at : ℕ) (front : List Token) (token : Token) (back : List Token) (text : List ℕ) (unclosed : Option ℕ) (rest : List ℕ) → SpellsTo block at (front ++ token ∷ back) text unclosed rest
    → (at ≤ token.span.start) × (count_before (front ++ token ∷ back) token.span.start ≡ length front)
count-front block at [] token back text unclosed rest (piece, behind, joined, span, spelled, apart, others) =
    let here : token.span.start ≡ at = ap (λ s. s.start) span in
    (omega (arith, here), passed-over token back)
count-front block at (first ∷ front) token back text unclosed rest (piece, behind, joined, span, spelled, apart, others) =
    let (later, same) = count-front _ (at + length piece) front token back behind unclosed rest others in
    let some = spelled-some _ first.kind piece behind spelled in
    let here : first.span.start ≡ at = ap (λ s. s.start) span in
    (omega (arith, later), counted first (front ++ token ∷ back) token.span.start (length front) (omega (arith, later, some, here)) same ∙ omega arith)

-- and all tokens begin before the end
count-all : (block : Option ℕ) (at : ℕ) (tokens : List Token) (text : List ℕ) (unclosed : Option ℕ) (rest : List ℕ) (end : ℕ) → SpellsTo block at tokens text unclosed rest → at + length text ≤ end → count_before tokens end ≡ length tokens
count-all block at [] text unclosed rest end spelled fits = refl
count-all block at (first ∷ tokens) text unclosed rest end (piece, behind, joined, span, spelled, apart, others) fits =
    let some = spelled-some _ first.kind piece behind spelled in
    let here : first.span.start ≡ at = ap (λ s. s.start) span in
    let whole : length text ≡ length piece + length behind = ap (λ (t : List ℕ). length t) joined ∙ length-append piece behind in
    let same = count-all _ (at + length piece) tokens behind unclosed rest end others (omega (arith, whole, fits)) in
    counted first tokens end (length tokens) (omega (arith, some, here, whole, fits)) same ∙ omega arith

pub reason-at : (front : List Token) (token : Token) (back : List Token) (place : ℕ) → count_before (front ++ token ∷ back) place ≡ length front → reason_of (front ++ token ∷ back) place ≡ first_reason (reverse front) (token ∷ back)
reason-at front token back place is =
    ap (λ n. first_reason (reverse (take n (front ++ token ∷ back))) (drop n (front ++ token ∷ back))) is
    ∙ ap (λ ts. first_reason (reverse ts) (drop (length front) (front ++ token ∷ back))) (take_at front (token ∷ back) (length front) refl)
    ∙ ap (first_reason (reverse front)) (drop_at front (token ∷ back) (length front) refl)

pub reason-at_end : (tokens : List Token) (place : ℕ) → count_before tokens place ≡ length tokens → reason_of tokens place ≡ first_reason (reverse tokens) []
reason-at_end tokens place is =
    ap (λ n. first_reason (reverse (take n tokens)) (drop n tokens)) is
    ∙ ap (λ ts. first_reason (reverse ts) (drop (length tokens) tokens)) (take_all (length tokens) tokens (omega arith))
    ∙ ap (first_reason (reverse tokens)) (drop_all (length tokens) tokens (omega arith))

pub before-token : (text : List ℕ) (front : List Token) (token : Token) (back : List Token) → SpellsTo None 0 (front ++ token ∷ back) text None [] → count_before (front ++ token ∷ back) token.span.start ≡ length front
before-token text front token back spelled = (count-front None 0 front token back text None [] spelled).1

pub before-end : (text : List ℕ) (tokens : List Token) → SpellsTo None 0 tokens text None [] → count_before tokens (length text) ≡ length tokens
before-end text tokens spelled = count-all None 0 tokens text None [] (length text) spelled (omega arith)
