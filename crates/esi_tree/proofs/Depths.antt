-- How many elements are open, item by item.
use Rattle.std.proofs.Common.{◌≡◌, ℕ, ◌+◌, ◌-◌, ◌≤◌, max, Bool, true, false, cond, List, [], ◌∷◌, length, Option, Some, None, refl, sym, ◌∙◌, ap, arith, ltb-true, lt-ltb}
use Rattle.std.proofs.lemmas.Option.{cond_some, option_and_then_some}
use Rattle.esi_scanner.specs.declared.element_name.ElementName.{ElementName}
use Rattle.esi_scanner.specs.declared.tag.Tag.{Tag}
use Rattle.esi_scanner.specs.Bytes.{◌>>=◌}
use Rattle.esi_tree.specs.declared.open_elements.TheConstants.{OPEN_LIMIT}
use Rattle.esi_tree.specs.Tree as tree
use Rattle.esi_tree.specs.Tree.{Element}
use Rattle.esi_tree.specs.Items.{Item, Text, Open, Close, Remove, Block}
use Rattle.esi_tree.specs.Attributes.{is_white}
use Rattle.esi_tree.specs.Template.{open_at_most}
use Rattle.esi_tree.specs.Reading.{Frame, State, Child, AnElement, put_in, is_run, in_vars, text_element, after_text, after_remove, left, after}
use Rattle.esi_tree.proofs.Runs.{opened, taken, fits, after-is, run, steps, chosen_some, Enters, opened-inverts, left-inverts}

-- how many are open at the item, where n were open before it
abbrev pub here : Item → ℕ → ℕ
here (Open tag) n = n + 1
here (Text bytes) n = n
here (Close name) n = n
here Remove n = n
here Block n = n

-- how many elements are open, where anything has been read
abbrev depth_of : Option State → ℕ
depth_of None = 0
depth_of (Some state) = length state.frames

put-depth : (child : Child) (frames : List Frame) (content : List Element) → length (put_in child frames content).frames ≡ length frames
put-depth child [] content = refl
put-depth child (frame ∷ outer) content = refl

text-depth : (bytes : List ℕ) (state next : State) → after_text bytes state ≡ Some next → length next.frames ≡ length state.frames
unfolding after_text
text-depth bytes state next e = by_place (is_run state.frames) e
  where
    by_place : (b : Bool) → cond b (Some (put_in (AnElement (text_element (in_vars state.frames) bytes)) state.frames state.content)) (cond (is_white bytes) (Some state) None) ≡ Some next → length next.frames ≡ length state.frames
    by_place true e' = sym (ap depth_of e') ∙ put-depth (AnElement (text_element (in_vars state.frames) bytes)) state.frames state.content
    by_place false e' = sym (ap (λ (s : State). length s.frames) (cond_some (is_white bytes) state next e').1)

remove-depth : (state next : State) → after_remove state ≡ Some next → length next.frames ≡ length state.frames
unfolding after_remove
remove-depth state next e =
    let put : State = put_in (AnElement tree.Nothing) state.frames state.content in
    sym (ap (λ (s : State). length s.frames) (cond_some (is_run state.frames) put next e).1) ∙ put-depth (AnElement tree.Nothing) state.frames state.content

left-depth : (name : ElementName) (frames : List Frame) (content : List Element) (next : State) → left name (record { frames = frames; content = content }) ≡ Some next → length frames ≡ length next.frames + 1
left-depth name frames content next e =
    let leaves = left-inverts name frames content next e in
    let same = ap (λ (s : State). length s.frames) leaves.next_is in
    let kept = put-depth leaves.child leaves.outer content in
    let was = ap (λ (fs : List Frame). length fs) leaves.frames_are in
    omega arith

closed-depth : (closed : Bool) (name : ElementName) (within next : State) (n : ℕ) → length within.frames ≡ n + 1 → cond closed (left name within) (Some within) ≡ Some next → length next.frames ≡ cond closed n (n + 1)
closed-depth true name within next n is e = let less = left-depth name within.frames within.content next e in omega arith
closed-depth false name within next n is e = let same = ap depth_of e in omega arith

open-depth : (tag : Tag) (state next : State) → opened tag state ≡ Some next → length next.frames ≡ cond tag.closed (length state.frames) (length state.frames + 1)
open-depth tag state next e =
    let (within, enters, rest) = opened-inverts tag state next e in
    closed-depth tag.closed tag.name within next (length state.frames) (more within enters) rest
  where
    more : (within : State) → Enters tag.name tag.attributes state within → length within.frames ≡ length state.frames + 1
    more within enters = let same = ap (λ (s : State). length s.frames) enters.within_is in omega arith

-- the most that are open at the item and behind it
open_at_most-step : (item : Item) (items : List Item) (state next : State) → taken item state ≡ Some next → open_at_most (length state.frames) (item ∷ items) ≡ max (here item (length state.frames)) (open_at_most (length next.frames) items)
open_at_most-step (Text bytes) items state next e = ap (λ n. max (length state.frames) (open_at_most n items)) (sym (text-depth bytes state next e))
open_at_most-step (Open tag) items state next e = ap (λ n. max (length state.frames + 1) (open_at_most n items)) (sym (open-depth tag state next e))
open_at_most-step (Close name) items state next e =
    let less = left-depth name state.frames state.content next e in
    let same : length state.frames - 1 ≡ length next.frames = omega arith in
    ap (λ n. max (length state.frames) (open_at_most n items)) same
open_at_most-step Remove items state next e = ap (λ n. max (length state.frames) (open_at_most n items)) (sym (remove-depth state next e))
open_at_most-step Block items state next e = ap (λ n. max (length state.frames) (open_at_most n items)) (ap depth_of e)

cond-depth : (closed : Bool) (n : ℕ) → cond closed n (n + 1) ≤ n + 1
cond-depth true n = omega arith
cond-depth false n = omega arith

next-depth : (item : Item) (state next : State) → taken item state ≡ Some next → length next.frames ≤ here item (length state.frames)
next-depth (Text bytes) state next e = let same = text-depth bytes state next e in omega arith
next-depth (Open tag) state next e =
    let same = open-depth tag state next e in
    let most = cond-depth tag.closed (length state.frames) in
    omega arith
next-depth (Close name) state next e = let less = left-depth name state.frames state.content next e in omega arith
next-depth Remove state next e = let same = remove-depth state next e in omega arith
next-depth Block state next e = let same = ap depth_of e in omega arith

fits-from_here : (item : Item) (n : ℕ) → here item n ≤ OPEN_LIMIT → fits item n ≡ true
fits-from_here (Open tag) n h = lt-ltb n OPEN_LIMIT (omega arith)
fits-from_here (Text bytes) n h = refl
fits-from_here (Close name) n h = refl
fits-from_here Remove n h = refl
fits-from_here Block n h = refl

here-from_fits : (item : Item) (n : ℕ) → fits item n ≡ true → n ≤ OPEN_LIMIT → here item n ≤ OPEN_LIMIT
here-from_fits (Open tag) n h within = let less = ltb-true n OPEN_LIMIT h in omega arith
here-from_fits (Text bytes) n h within = within
here-from_fits (Close name) n h within = within
here-from_fits Remove n h within = within
here-from_fits Block n h within = within

pub after-inverts : (item : Item) (state next : State) → after item state ≡ Some next → (fits item (length state.frames) ≡ true) × (taken item state ≡ Some next)
after-inverts item state next e = chosen_some (fits item (length state.frames)) (taken item state) next (sym (after-is item state) ∙ e)

after-from_taken : (item : Item) (state next : State) → fits item (length state.frames) ≡ true → taken item state ≡ Some next → after item state ≡ Some next
after-from_taken item state next fit e = after-is item state ∙ ap (λ b. cond b (taken item state) None) fit ∙ e

-- where few enough are open at each place, the depth stops nothing
pub steps-from_run : (items : List Item) (state final : State) → run items state ≡ Some final → open_at_most (length state.frames) items ≤ OPEN_LIMIT → steps items state ≡ Some final
steps-from_run [] state final e shallow = e
steps-from_run (item ∷ items) state final e shallow =
    option_and_then_some (λ s. run items s) (taken item state) final e (λ next first rest.
    let most = open_at_most-step item items state next first in
    let fit : fits item (length state.frames) ≡ true = fits-from_here item (length state.frames) (omega arith) in
    ap (λ o. o >>= λ s. steps items s) (after-from_taken item state next fit first) ∙ steps-from_run items next final rest (omega arith))

-- what is read with a look at the depth is read without one
pub run-from_steps : (items : List Item) (state final : State) → steps items state ≡ Some final → run items state ≡ Some final
run-from_steps [] state final e = e
run-from_steps (item ∷ items) state final e =
    option_and_then_some (λ s. steps items s) (after item state) final e (λ next first rest.
    ap (λ o. o >>= λ s. run items s) (after-inverts item state next first).1 ∙ run-from_steps items next final rest)

-- and few enough are open at each place
pub shallow-from_steps : (items : List Item) (state final : State) → steps items state ≡ Some final → length state.frames ≤ OPEN_LIMIT → open_at_most (length state.frames) items ≤ OPEN_LIMIT
shallow-from_steps [] state final e within = within
shallow-from_steps (item ∷ items) state final e within =
    option_and_then_some (λ s. steps items s) (after item state) final e (λ next first rest.
    let parts = after-inverts item state next first in
    let most = open_at_most-step item items state next parts.1 in
    let fit : here item (length state.frames) ≤ OPEN_LIMIT = here-from_fits item (length state.frames) parts.0 within in
    let less = next-depth item state next parts.1 in
    let behind = shallow-from_steps items next final rest (omega arith) in
    omega arith)
