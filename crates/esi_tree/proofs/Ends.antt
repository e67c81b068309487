-- What an opening tag begins, and what an open element is at its end.
use Rattle.std.proofs.Common.{◌≡◌, inr, ℕ, Bool, true, false, List, [], ◌∷◌, ◌++◌, Option, Some, None, unwrap_or, refl, sym, ◌∙◌, ap, subst}
use Rattle.std.proofs.lemmas.List.{append-nil}
use Rattle.std.proofs.lemmas.Option.{option_and_then_some}
use Rattle.std.specs.List.{list_any}
use Rattle.esi_scanner.specs.declared.attribute.Attribute.{Attribute}
use Rattle.esi_scanner.specs.declared.element_name.ElementName.{ElementName}
use Rattle.esi_scanner.specs.declared.element_name.ElementName.TheVariants as element
use Rattle.esi_scanner.specs.declared.tag.Tag.{Tag}
use Rattle.esi_expr.specs.Tree.{Test}
use Rattle.esi_tree.specs.declared.include.Include.{Include}
use Rattle.esi_tree.specs.Tree as tree
use Rattle.esi_tree.specs.Tree.{Element, Elements, Branches, NoBranch}
use Rattle.esi_tree.specs.Shown.{row, Branch, branch_before, branch_row}
use Rattle.esi_tree.specs.Items.{Item}
use Rattle.esi_tree.specs.Attributes.{include_of, when_test, inline_name}
use Rattle.esi_tree.specs.Template.{HasWhen, AreBranches}
use Rattle.esi_tree.specs.Reading.{Halves, Neither, AttemptAlone, ExceptAlone, Both, Frame, InInclude, InComment, InInline, InVars, InChoose, InWhen, InOtherwise, InTry, InAttempt, InExcept, Child, AnElement, ABranch, AnAttempt, AnExcept, is_when, may_stand, opened_by, name_of, child_of}
use Rattle.esi_tree.proofs.Runs.{chosen_some}
use Rattle.esi_tree.proofs.Places.{emptied, is_run-may_stand}
use Rattle.esi_tree.proofs.Rounds.{Shape}
use Rattle.esi_tree.proofs.Inside.{IsChild, Fits, Inside, BeginBranches, branches_then, branch_with}

-- what a tag opens: an element of its name, in which nothing has been read
pub record IsFresh (name : ElementName) (attributes : List Attribute) (frame : Frame) : Type 0 where
  pub named : name ≡ name_of frame
  pub says : opened_by (name_of frame) attributes ≡ Some (emptied frame)
  pub starts : (vars : Bool) → Inside vars frame []

fresh-is : (name : ElementName) (attributes : List Attribute) (frame other : Frame) → Some frame ≡ Some other → IsFresh name attributes frame → IsFresh name attributes other
fresh-is name attributes frame other e is =
    let P : Frame → Type 0 = λ f. IsFresh name attributes f in
    let same : frame ≡ other = ap (λ o. unwrap_or o other) e in
    subst P same is

pub fresh : (name : ElementName) (attributes : List Attribute) (frame : Frame) → opened_by name attributes ≡ Some frame → IsFresh name attributes frame
unfolding opened_by
fresh element.Include attributes frame e =
    option_and_then_some (λ include. Some (InInclude include)) (include_of attributes) frame e (λ include is rest.
    fresh-is element.Include attributes (InInclude include) frame rest (record { named = refl; says = e ∙ sym rest; starts = λ vars. tt }))
fresh element.Inline attributes frame e =
    option_and_then_some (λ label. Some (InInline label [])) (inline_name attributes) frame e (λ label is rest.
    fresh-is element.Inline attributes (InInline label []) frame rest (record { named = refl; says = e ∙ sym rest; starts = λ vars. refl }))
fresh element.Choose attributes frame e = fresh-is element.Choose attributes (InChoose []) frame e (record { named = refl; says = refl; starts = λ vars rest more are. are })
fresh element.When attributes frame e =
    option_and_then_some (λ test. Some (InWhen test [])) (when_test attributes) frame e (λ test is rest.
    fresh-is element.When attributes (InWhen test []) frame rest (record { named = refl; says = e ∙ sym rest; starts = λ vars. refl }))
fresh element.Otherwise attributes frame e = fresh-is element.Otherwise attributes (InOtherwise []) frame e (record { named = refl; says = refl; starts = λ vars. refl })
fresh element.Try attributes frame e = fresh-is element.Try attributes (InTry Neither) frame e (record { named = refl; says = refl; starts = λ vars. tt })
fresh element.Attempt attributes frame e = fresh-is element.Attempt attributes (InAttempt []) frame e (record { named = refl; says = refl; starts = λ vars. refl })
fresh element.Except attributes frame e = fresh-is element.Except attributes (InExcept []) frame e (record { named = refl; says = refl; starts = λ vars. refl })
fresh element.Comment attributes frame e = fresh-is element.Comment attributes InComment frame e (record { named = refl; says = refl; starts = λ vars. tt })
fresh element.Remove attributes frame e = absurd (cc)
fresh element.Vars attributes frame e = fresh-is element.Vars attributes (InVars []) frame e (record { named = refl; says = refl; starts = λ vars. refl })

says-include : (include : Include) (attributes : List Attribute) → opened_by element.Include attributes ≡ Some (InInclude include) → include_of attributes ≡ Some include
unfolding opened_by
says-include include attributes e =
    option_and_then_some (λ s. Some (InInclude s)) (include_of attributes) (InInclude include) e (λ s is rest.
    let same : s ≡ include = cc in
    is ∙ ap Some same)

says-inline : (label : List ℕ) (attributes : List Attribute) → opened_by element.Inline attributes ≡ Some (InInline label []) → inline_name attributes ≡ Some label
unfolding opened_by
says-inline label attributes e =
    option_and_then_some (λ s. Some (InInline s [])) (inline_name attributes) (InInline label []) e (λ s is rest.
    let same : s ≡ label = cc in
    is ∙ ap Some same)

says-when : (test : Test) (attributes : List Attribute) → opened_by element.When attributes ≡ Some (InWhen test []) → when_test attributes ≡ Some test
unfolding opened_by
says-when test attributes e =
    option_and_then_some (λ t. Some (InWhen t [])) (when_test attributes) (InWhen test []) e (λ t is rest.
    let same : t ≡ test = cc in
    is ∙ ap Some same)

has_when-branch : (test : Option Test) (content : Elements) (bs : List Branch) → (list_any is_when bs ≡ true → HasWhen (branch_row bs)) → list_any is_when (branch_with test content ∷ bs) ≡ true → HasWhen (branch_before test content (branch_row bs))
has_when-branch None content bs behind e = behind e
has_when-branch (Some test) content bs behind e = tt

has_when-branch_row : (bs : List Branch) → list_any is_when bs ≡ true → HasWhen (branch_row bs)
has_when-branch_row [] e = absurd (cc)
has_when-branch_row (b ∷ bs) e = has_when-branch b.test b.content bs (λ behind. has_when-branch_row bs behind) e

branches_then-none : (bs : List Branch) → branches_then bs NoBranch ≡ branch_row bs
branches_then-none [] = refl
branches_then-none (b ∷ bs) = ap (λ rest. branch_before b.test b.content rest) (branches_then-none bs)

all-branches : (vars : Bool) (bs : List Branch) (items : List Item) → BeginBranches vars bs items → AreBranches vars true (branch_row bs) items
all-branches vars bs items inside =
    let P : Branches → Type 0 = λ all. AreBranches vars true all (items ++ []) in
    let Q : List Item → Type 0 = λ us. AreBranches vars true (branch_row bs) us in
    subst Q (append-nil items) (subst P (branches_then-none bs) (inside NoBranch [] tt))

given : (vars : Bool) (a b : Child) (items : List Item) → Some a ≡ Some b → IsChild vars a items → IsChild vars b items
given vars a b items e is =
    let P : Child → Type 0 = λ p. IsChild vars p items in
    let same : a ≡ b = ap (λ o. unwrap_or o b) e in
    subst P same is

whole-try : (vars : Bool) (halves : Halves) (child : Child) (tag : Tag) (inner items : List Item) → tag.name ≡ element.Try → Inside vars (InTry halves) inner → child_of (InTry halves) ≡ Some child → Shape tag element.Try inner items → IsChild vars child items
unfolding child_of
whole-try vars Neither child tag inner items named inside is shape = absurd (cc)
whole-try vars (AttemptAlone attempt) child tag inner items named inside is shape = absurd (cc)
whole-try vars (ExceptAlone except) child tag inner items named inside is shape = absurd (cc)
whole-try vars (Both attempt except false) child tag inner items named inside is shape =
    given vars (AnElement (tree.Try attempt except false)) child items is (record { tag = tag; content = inner; named = named; fits = inside; shape = shape })
whole-try vars (Both attempt except true) child tag inner items named inside is shape =
    given vars (AnElement (tree.Try attempt except true)) child items is (record { tag = tag; content = inner; named = named; fits = inside; shape = shape })

-- the tag, what has been read inside and the end are what the element gives
pub whole : (vars : Bool) (frame : Frame) (child : Child) (tag : Tag) (inner items : List Item) → tag.name ≡ name_of frame → opened_by (name_of frame) tag.attributes ≡ Some (emptied frame)
    → Inside vars frame inner → child_of frame ≡ Some child → Shape tag (name_of frame) inner items → IsChild vars child items
unfolding child_of
whole vars (InInclude include) child tag inner items named says inside is shape =
    given vars (AnElement (tree.Include include)) child items is
    (record { tag = tag; content = inner; named = named; fits = (inside, says-include include tag.attributes says); shape = shape })
whole vars InComment child tag inner items named says inside is shape =
    given vars (AnElement tree.Nothing) child items is (inr (record { tag = tag; content = inner; named = named; fits = inside; shape = shape }))
whole vars (InInline label content) child tag inner items named says inside is shape =
    given vars (AnElement (tree.Inline label (row content))) child items is
    (record { tag = tag; content = inner; named = named; fits = (says-inline label tag.attributes says, inside); shape = shape })
whole vars (InVars content) child tag inner items named says inside is shape =
    given vars (AnElement (tree.Vars (row content))) child items is (record { tag = tag; content = inner; named = named; fits = inside; shape = shape })
whole vars (InChoose bs) child tag inner items named says inside is shape =
    let parts = chosen_some (list_any is_when bs) (Some (AnElement (tree.Choose (branch_row bs)))) child is in
    given vars (AnElement (tree.Choose (branch_row bs))) child items parts.1
    (record { tag = tag; content = inner; named = named; fits = (has_when-branch_row bs parts.0, all-branches vars bs inner inside); shape = shape })
whole vars (InWhen test content) child tag inner items named says inside is shape =
    given vars (ABranch (branch_with (Some test) (row content))) child items is
    (record { tag = tag; content = inner; named = named; fits = (says-when test tag.attributes says, inside); shape = shape })
whole vars (InOtherwise content) child tag inner items named says inside is shape =
    given vars (ABranch (branch_with None (row content))) child items is (record { tag = tag; content = inner; named = named; fits = inside; shape = shape })
whole vars (InTry halves) child tag inner items named says inside is shape = whole-try vars halves child tag inner items named inside is shape
whole vars (InAttempt content) child tag inner items named says inside is shape =
    given vars (AnAttempt (row content)) child items is (record { tag = tag; content = inner; named = named; fits = inside; shape = shape })
whole vars (InExcept content) child tag inner items named says inside is shape =
    given vars (AnExcept (row content)) child items is (record { tag = tag; content = inner; named = named; fits = inside; shape = shape })

fits-is : (a b : Child) (frames : List Frame) → Some a ≡ Some b → Fits a frames → Fits b frames
fits-is a b frames e fit =
    let P : Child → Type 0 = λ p. Fits p frames in
    let same : a ≡ b = ap (λ o. unwrap_or o b) e in
    subst P same fit

fits-try : (halves : Halves) (child : Child) (frames : List Frame) → child_of (InTry halves) ≡ Some child → may_stand element.Try frames ≡ true → Fits child frames
unfolding child_of
fits-try Neither child frames is may = absurd (cc)
fits-try (AttemptAlone attempt) child frames is may = absurd (cc)
fits-try (ExceptAlone except) child frames is may = absurd (cc)
fits-try (Both attempt except swapped) child frames is may = fits-is (AnElement (tree.Try attempt except swapped)) child frames is (is_run-may_stand element.Try frames refl may)

-- where an element may stand, what it gives may stand
pub fits-child : (frame : Frame) (child : Child) (frames : List Frame) → child_of frame ≡ Some child → may_stand (name_of frame) frames ≡ true → Fits child frames
unfolding child_of
fits-child (InInclude include) child frames is may = fits-is (AnElement (tree.Include include)) child frames is (is_run-may_stand element.Include frames refl may)
fits-child InComment child frames is may = fits-is (AnElement tree.Nothing) child frames is (is_run-may_stand element.Comment frames refl may)
fits-child (InInline label content) child frames is may = fits-is (AnElement (tree.Inline label (row content))) child frames is (is_run-may_stand element.Inline frames refl may)
fits-child (InVars content) child frames is may = fits-is (AnElement (tree.Vars (row content))) child frames is (is_run-may_stand element.Vars frames refl may)
fits-child (InChoose bs) child frames is may =
    fits-is (AnElement (tree.Choose (branch_row bs))) child frames (chosen_some (list_any is_when bs) (Some (AnElement (tree.Choose (branch_row bs)))) child is).1 (is_run-may_stand element.Choose frames refl may)
fits-child (InWhen test content) child frames is may = fits-is (ABranch (branch_with (Some test) (row content))) child frames is may
fits-child (InOtherwise content) child frames is may = fits-is (ABranch (branch_with None (row content))) child frames is may
fits-child (InTry halves) child frames is may = fits-try halves child frames is may
fits-child (InAttempt content) child frames is may = fits-is (AnAttempt (row content)) child frames is may
fits-child (InExcept content) child frames is may = fits-is (AnExcept (row content)) child frames is may
