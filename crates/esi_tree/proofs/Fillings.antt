-- What is put at the innermost place, one element after another.
use Rattle.std.proofs.Common.{◌≡◌, true, List, [], ◌∷◌, ◌++◌, Some, None, refl, sym, ◌∙◌, ap, append_assoc}
use Rattle.std.proofs.lemmas.List.{append-nil}
use Rattle.std.specs.List.{list_any}
use Rattle.esi_tree.specs.Tree as tree
use Rattle.esi_tree.specs.Tree.{Element, Elements, End, Then, Branches, NoBranch, When}
use Rattle.esi_tree.specs.Shown.{row, Branch, branch_row}
use Rattle.esi_tree.specs.Items.{Item}
use Rattle.esi_tree.specs.Template.{HasWhen}
use Rattle.esi_tree.specs.Reading.{Frame, InChoose, State, AnElement, with_element, put, inside, is_when, child_of}
use Rattle.esi_tree.proofs.Runs.{run}

-- the elements of a run, as a list
abbrev pub listed : Elements → List Element
listed End = []
listed (Then first rest) = first ∷ listed rest

pub row-listed : (t : Elements) → row (listed t) ≡ t
row-listed End = refl
row-listed (Then first rest) = ap (Then first) (row-listed rest)

-- the branches of a choose, as a list
abbrev pub listed_branches : Branches → List Branch
listed_branches NoBranch = []
listed_branches (When test content rest) = record { test = Some test; content = content } ∷ listed_branches rest
listed_branches (tree.Otherwise content rest) = record { test = None; content = content } ∷ listed_branches rest

pub branch_row-listed : (bs : Branches) → branch_row (listed_branches bs) ≡ bs
branch_row-listed NoBranch = refl
branch_row-listed (When test content rest) = ap (When test content) (branch_row-listed rest)
branch_row-listed (tree.Otherwise content rest) = ap (tree.Otherwise content) (branch_row-listed rest)

has_when-listed : (bs : Branches) → HasWhen bs → list_any is_when (listed_branches bs) ≡ true
has_when-listed NoBranch has = absurd has
has_when-listed (When test content rest) has = refl
has_when-listed (tree.Otherwise content rest) has = has_when-listed rest has

pub child-choose : (bs : Branches) → HasWhen bs → child_of (InChoose (listed_branches bs)) ≡ Some (AnElement (tree.Choose bs))
unfolding child_of
child-choose bs has = rw (has_when-listed bs has, branch_row-listed bs) refl

-- what stands in no element
abbrev pub page : List Element → State
page content = record { frames = []; content = content }

abbrev pub put_all : List Element → State → State
put_all [] state = state
put_all (e ∷ es) state = put_all es (put (AnElement e) state)

abbrev pub with_all : List Element → Frame → Frame
with_all [] frame = frame
with_all (e ∷ es) frame = with_all es (with_element e frame)

put_all-inside : (es : List Element) (frame : Frame) (state : State) → put_all es (inside frame state) ≡ inside (with_all es frame) state
put_all-inside [] frame state = refl
put_all-inside (e ∷ es) frame state = put_all-inside es (with_element e frame) state

pub put_all-page : (es content : List Element) → put_all es (page content) ≡ page (content ++ es)
put_all-page [] content = ap page (sym (append-nil content))
put_all-page (e ∷ es) content = put_all-page es (content ++ e ∷ []) ∙ ap page (append_assoc content (e ∷ []) es)

with_all-is : (of : List Element → Frame) (es content : List Element) → ((xs : List Element) (x : Element) → with_element x (of xs) ≡ of (xs ++ x ∷ [])) → with_all es (of content) ≡ of (content ++ es)
with_all-is of [] content grows = ap of (sym (append-nil content))
with_all-is of (e ∷ es) content grows = ap (with_all es) (grows content e) ∙ with_all-is of es (content ++ e ∷ []) grows ∙ ap of (append_assoc content (e ∷ []) es)

-- an open element with all elements of a run
pub run-filled : (of : List Element → Frame) (t : Elements) (items : List Item) (state : State) → ((xs : List Element) (x : Element) → with_element x (of xs) ≡ of (xs ++ x ∷ []))
    → run items (inside (of []) state) ≡ Some (put_all (listed t) (inside (of []) state)) → run items (inside (of []) state) ≡ Some (inside (of (listed t)) state)
run-filled of t items state grows e =
    e ∙ ap Some (put_all-inside (listed t) (of []) state) ∙ ap (λ frame. Some (inside frame state)) (with_all-is of (listed t) [] grows)
