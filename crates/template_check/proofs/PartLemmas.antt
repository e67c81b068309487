-- Which parts an element has, as it is read.
use Rattle.std.proofs.Common.{◌≡◌, ◌||◌, Bool, true, false, cond, List, [], ◌∷◌, ◌++◌, Some, None, refl, sym, ◌∙◌, ap, subst}
use Rattle.std.specs.List.{list_any}
use Rattle.std.proofs.lemmas.List.Folds.{list_any-append}
use Rattle.esi_scanner.specs.declared.attribute.Attribute.{Attribute}
use Rattle.esi_scanner.specs.declared.element_name.ElementName.{ElementName}
use Rattle.esi_scanner.specs.declared.element_name.ElementName.TheVariants as element
use Rattle.esi_tree.specs.Tree as tree
use Rattle.esi_tree.specs.Tree.{Element, Elements}
use Rattle.esi_tree.specs.Shown.{row, Branch, branch_row}
use Rattle.esi_tree.specs.Reading.{Halves, Neither, AttemptAlone, ExceptAlone, Both, Frame, InInclude, InComment, InInline, InVars, InChoose, InWhen, InOtherwise, InTry, InAttempt, InExcept, Child, AnElement, ABranch, AnAttempt, AnExcept, with_element, with_half, with_attempt, with_except, grown, is_otherwise, is_when, stands_in_run, opened_by, name_of, is_same, child_of}
use Rattle.esi_tree.proofs.Runs.{chosen_some, same-is}
use Rattle.esi_tree.proofs.Places.{emptied}
use Rattle.esi_tree.proofs.Ends.{fresh}
use Rattle.template_check.specs.Reasons.{is_branch, is_half, stands_in, is_single}
use Rattle.template_check.specs.Refusals.{has_branch, has_half, has}

disjoint : (name : ElementName) → is_single name ≡ true → stands_in_run name ≡ true → ⊥
disjoint element.Otherwise single run = absurd (cc)
disjoint element.Attempt single run = absurd (cc)
disjoint element.Except single run = absurd (cc)
disjoint _ single run = absurd (cc)

pub not-single : (name wanted : ElementName) → stands_in_run name ≡ true → is_single wanted ≡ true → is_same name wanted ≡ false
not-single name wanted run single = by_test (is_same name wanted) refl
  where
    by_test : (b : Bool) → is_same name wanted ≡ b → is_same name wanted ≡ false
    by_test true e = absurd (disjoint wanted single (ap stands_in_run (sym (same-is name wanted e)) ∙ run))
    by_test false e = e

-- what is read of an element that is no part gives it no part
pub element-has : (wanted : ElementName) (e : Element) (frame : Frame) → has wanted (with_element e frame) ≡ has wanted frame
element-has wanted e (InInclude include) = refl
element-has wanted e InComment = refl
element-has wanted e (InInline label content) = refl
element-has wanted e (InVars content) = refl
element-has wanted e (InChoose branches) = refl
element-has wanted e (InWhen test content) = refl
element-has wanted e (InOtherwise content) = refl
element-has wanted e (InTry halves) = refl
element-has wanted e (InAttempt content) = refl
element-has wanted e (InExcept content) = refl

-- the element that a frame gives, where it is no part
element-given : (frame : Frame) (child : Child) → child_of frame ≡ Some child → stands_in_run (name_of frame) ≡ true → (e : Element) × (AnElement e ≡ child)
unfolding child_of
element-given (InInclude include) child gives run = (tree.Include include, cc)
element-given InComment child gives run = (tree.Nothing, cc)
element-given (InInline label content) child gives run = (tree.Inline label (row content), cc)
element-given (InVars content) child gives run = (tree.Vars (row content), cc)
element-given (InChoose branches) child gives run =
    let choose = tree.Choose (branch_row branches) in
    let parts = chosen_some (list_any is_when branches) (Some (AnElement choose)) child gives in
    (choose, cc)
element-given (InWhen test content) child gives run = absurd (cc)
element-given (InOtherwise content) child gives run = absurd (cc)
element-given (InTry Neither) child gives run = absurd (cc)
element-given (InTry (AttemptAlone attempt)) child gives run = absurd (cc)
element-given (InTry (ExceptAlone except)) child gives run = absurd (cc)
element-given (InTry (Both attempt except swapped)) child gives run = (tree.Try attempt except swapped, cc)
element-given (InAttempt content) child gives run = absurd (cc)
element-given (InExcept content) child gives run = absurd (cc)

otherwise-added : (branches : List Branch) (branch : Branch) → list_any is_otherwise (branches ++ branch ∷ []) ≡ (list_any is_otherwise branches || (is_otherwise branch || false))
otherwise-added branches branch = list_any-append is_otherwise branches (branch ∷ [])

or-false : (b : Bool) → (b || false) ≡ b
or-false true = refl
or-false false = refl

or-true : (b : Bool) → (b || true) ≡ true
or-true true = refl
or-true false = refl

-- a branch more
when-has : (wanted : ElementName) (branches : List Branch) (branch : Branch) → is_otherwise branch ≡ false → has_branch wanted (branches ++ branch ∷ []) ≡ has_branch wanted branches
when-has element.Otherwise branches branch is = otherwise-added branches branch ∙ rw is (or-false (list_any is_otherwise branches))
when-has _ branches branch is = refl

otherwise-has : (wanted : ElementName) (branches : List Branch) (branch : Branch) → is_otherwise branch ≡ true → has_branch wanted (branches ++ branch ∷ []) ≡ cond (is_same element.Otherwise wanted) true (has_branch wanted branches)
otherwise-has element.Otherwise branches branch is = otherwise-added branches branch ∙ rw is (or-true (list_any is_otherwise branches))
otherwise-has _ branches branch is = refl

-- a half more
attempt-has : (wanted : ElementName) (content : Elements) (halves : Halves) → has_half wanted (with_attempt content halves) ≡ cond (is_same element.Attempt wanted) true (has_half wanted halves)
attempt-has element.Attempt content Neither = refl
attempt-has element.Attempt content (AttemptAlone attempt) = refl
attempt-has element.Attempt content (ExceptAlone except) = refl
attempt-has element.Attempt content (Both attempt except swapped) = refl
attempt-has element.Except content Neither = refl
attempt-has element.Except content (AttemptAlone attempt) = refl
attempt-has element.Except content (ExceptAlone except) = refl
attempt-has element.Except content (Both attempt except swapped) = refl
attempt-has _ content halves = refl

except-has : (wanted : ElementName) (content : Elements) (halves : Halves) → has_half wanted (with_except content halves) ≡ cond (is_same element.Except wanted) true (has_half wanted halves)
except-has element.Attempt content Neither = refl
except-has element.Attempt content (AttemptAlone attempt) = refl
except-has element.Attempt content (ExceptAlone except) = refl
except-has element.Attempt content (Both attempt except swapped) = refl
except-has element.Except content Neither = refl
except-has element.Except content (AttemptAlone attempt) = refl
except-has element.Except content (ExceptAlone except) = refl
except-has element.Except content (Both attempt except swapped) = refl
except-has _ content halves = refl

-- a part stands in its element alone
choose-only : (name : ElementName) (frame : Frame) → is_branch name ≡ true → stands_in name (name_of frame) ≡ true → (branches : List Branch) × (frame ≡ InChoose branches)
choose-only name (InChoose branches) branch stands = (branches, refl)
choose-only element.When (InInclude include) branch stands = absurd (cc)
choose-only element.When InComment branch stands = absurd (cc)
choose-only element.When _ branch stands = absurd (cc)
choose-only element.Otherwise (InInclude include) branch stands = absurd (cc)
choose-only element.Otherwise InComment branch stands = absurd (cc)
choose-only element.Otherwise _ branch stands = absurd (cc)
choose-only _ _ branch stands = absurd (cc)

try-only : (name : ElementName) (frame : Frame) → is_half name ≡ true → stands_in name (name_of frame) ≡ true → (halves : Halves) × (frame ≡ InTry halves)
try-only name (InTry halves) half stands = (halves, refl)
try-only element.Attempt (InInclude include) half stands = absurd (cc)
try-only element.Attempt InComment half stands = absurd (cc)
try-only element.Attempt _ half stands = absurd (cc)
try-only element.Except (InInclude include) half stands = absurd (cc)
try-only element.Except InComment half stands = absurd (cc)
try-only element.Except _ half stands = absurd (cc)
try-only _ _ half stands = absurd (cc)

-- what an element has once one inside it has ended
abbrev Adds : ElementName → Frame → Frame → Child → Type 0
Adds wanted frame outer child = has wanted (grown child outer) ≡ cond (is_same (name_of frame) wanted) true (has wanted outer)

adds-element : (wanted : ElementName) (frame outer : Frame) (child : Child) → is_single wanted ≡ true → stands_in_run (name_of frame) ≡ true → child_of frame ≡ Some child → Adds wanted frame outer child
adds-element wanted frame outer child single run gives =
    let (e, same) = element-given frame child gives run in
    let P : Child → Type 0 = λ c. Adds wanted frame outer c in
    subst P same (element-has wanted e outer ∙ sym (ap (λ b. cond b true (has wanted outer)) (not-single (name_of frame) wanted run single)))

adds-branch : (wanted : ElementName) (frame outer : Frame) (branch : Branch) (child : Child) → ABranch branch ≡ child
    → ((branches : List Branch) → has_branch wanted (branches ++ branch ∷ []) ≡ cond (is_same (name_of frame) wanted) true (has_branch wanted branches))
    → is_branch (name_of frame) ≡ true → stands_in (name_of frame) (name_of outer) ≡ true → Adds wanted frame outer child
adds-branch wanted frame outer branch child same each is stands =
    let (branches, choose) = choose-only (name_of frame) outer is stands in
    let P : Frame → Type 0 = λ f. Adds wanted frame f child in
    let Q : Child → Type 0 = λ c. Adds wanted frame (InChoose branches) c in
    subst P (sym choose) (subst Q same (each branches))

adds-half : (wanted : ElementName) (frame outer : Frame) (more : Halves → Halves) (child : Child) → ((g : Frame) → with_half more g ≡ grown child g)
    → ((halves : Halves) → has_half wanted (more halves) ≡ cond (is_same (name_of frame) wanted) true (has_half wanted halves))
    → is_half (name_of frame) ≡ true → stands_in (name_of frame) (name_of outer) ≡ true → Adds wanted frame outer child
adds-half wanted frame outer more child same each is stands =
    let (halves, try) = try-only (name_of frame) outer is stands in
    let P : Frame → Type 0 = λ f. Adds wanted frame f child in
    subst P (sym try) (ap (has wanted) (sym (same (InTry halves))) ∙ each halves)

pub adds : (wanted : ElementName) (frame outer : Frame) (child : Child) → is_single wanted ≡ true → stands_in (name_of frame) (name_of outer) ≡ true → child_of frame ≡ Some child → Adds wanted frame outer child
unfolding child_of
adds wanted (InInclude include) outer child single stands gives = adds-element wanted (InInclude include) outer child single refl gives
adds wanted InComment outer child single stands gives = adds-element wanted InComment outer child single refl gives
adds wanted (InInline label content) outer child single stands gives = adds-element wanted (InInline label content) outer child single refl gives
adds wanted (InVars content) outer child single stands gives = adds-element wanted (InVars content) outer child single refl gives
adds wanted (InChoose branches) outer child single stands gives = adds-element wanted (InChoose branches) outer child single refl gives
adds wanted (InTry halves) outer child single stands gives = adds-element wanted (InTry halves) outer child single refl gives
adds wanted (InWhen test content) outer child single stands gives =
    adds-branch wanted (InWhen test content) outer (record { test = Some test; content = row content }) child (cc)
    (λ branches. when-has wanted branches (record { test = Some test; content = row content }) refl ∙ when-is wanted branches single) refl stands
  where
    when-is : (w : ElementName) (branches : List Branch) → is_single w ≡ true → has_branch w branches ≡ cond (is_same element.When w) true (has_branch w branches)
    when-is element.When branches one = absurd (cc)
    when-is _ branches one = refl
adds wanted (InOtherwise content) outer child single stands gives =
    adds-branch wanted (InOtherwise content) outer (record { test = None; content = row content }) child (cc)
    (λ branches. otherwise-has wanted branches (record { test = None; content = row content }) refl) refl stands
adds wanted (InAttempt content) outer child single stands gives =
    adds-half wanted (InAttempt content) outer (with_attempt (row content)) child (λ g. let same : AnAttempt (row content) ≡ child = cc in ap (λ c. grown c g) same)
    (λ halves. attempt-has wanted (row content) halves) refl stands
adds wanted (InExcept content) outer child single stands gives =
    adds-half wanted (InExcept content) outer (with_except (row content)) child (λ g. let same : AnExcept (row content) ≡ child = cc in ap (λ c. grown c g) same)
    (λ halves. except-has wanted (row content) halves) refl stands

empty-branches : (wanted : ElementName) → has_branch wanted [] ≡ false
empty-branches element.Otherwise = refl
empty-branches _ = refl

empty-halves : (wanted : ElementName) → has_half wanted Neither ≡ false
empty-halves element.Attempt = refl
empty-halves element.Except = refl
empty-halves _ = refl

empty-has : (wanted : ElementName) (frame : Frame) → has wanted (emptied frame) ≡ false
empty-has wanted (InInclude include) = refl
empty-has wanted InComment = refl
empty-has wanted (InInline label content) = refl
empty-has wanted (InVars content) = refl
empty-has wanted (InChoose branches) = empty-branches wanted
empty-has wanted (InWhen test content) = refl
empty-has wanted (InOtherwise content) = refl
empty-has wanted (InTry halves) = empty-halves wanted
empty-has wanted (InAttempt content) = refl
empty-has wanted (InExcept content) = refl

-- an element that a tag opens has its name, and no part
pub opened-named : (name : ElementName) (attributes : List Attribute) (frame : Frame) → opened_by name attributes ≡ Some frame → name ≡ name_of frame
opened-named name attributes frame opens = (fresh name attributes frame opens).named

pub opened-empty : (wanted name : ElementName) (attributes : List Attribute) (frame : Frame) → opened_by name attributes ≡ Some frame → has wanted frame ≡ false
opened-empty wanted name attributes frame opens =
    let is = fresh name attributes frame opens in
    let same : Some frame ≡ Some (emptied frame) = sym opens ∙ (ap (λ n. opened_by n attributes) is.named ∙ is.says) in
    let here : frame ≡ emptied frame = cc in
    ap (has wanted) here ∙ empty-has wanted frame
