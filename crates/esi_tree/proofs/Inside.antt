-- What has been read inside an open element, and how it grows.
use Rattle.std.proofs.Common.{◌≡◌, Bool, true, false, not, ◌||◌, List, [], ◌∷◌, ◌++◌, Option, Some, None, refl, sym, ◌∙◌, ap, subst, append_assoc}
use Rattle.std.proofs.Math.Bool.{or-false}
use Rattle.std.proofs.lemmas.List.{append-nil}
use Rattle.std.proofs.lemmas.List.Folds.{list_any-append}
use Rattle.std.specs.List.{list_any}
use Rattle.esi_scanner.specs.declared.element_name.ElementName.{ElementName}
use Rattle.esi_scanner.specs.declared.element_name.ElementName.TheVariants as element
use Rattle.esi_expr.specs.Tree.{Test}
use Rattle.esi_tree.specs.Tree as tree
use Rattle.esi_tree.specs.Tree.{Element, Elements, End, Then, Branches, NoBranch, When}
use Rattle.esi_tree.specs.Shown.{row, Branch, branch_before}
use Rattle.esi_tree.specs.Items.{Item}
use Rattle.esi_tree.specs.Template.{AreWhite, Splits, AfterWhite, IsPart, IsWhen, IsElement, IsRun, AreBranches}
use Rattle.esi_tree.specs.Reading.{Halves, Neither, AttemptAlone, ExceptAlone, Both, Frame, InInclude, InComment, InInline, InVars, InChoose, InWhen, InOtherwise, InTry, InAttempt, InExcept, Child, AnElement, ABranch, AnAttempt, AnExcept, with_attempt, with_except, with_element, with_branch, with_half, grown, holds_run, is_run, is_vars, is_otherwise, stands_in_run, stands_in_choose, stands_in_try, stands_in, may_stand}

-- these items are a branch
abbrev pub IsBranch : Bool → Option Test → Elements → List Item → Type 0
IsBranch vars None content items = IsPart element.Otherwise (IsRun vars content) items
IsBranch vars (Some test) content items = IsWhen test (IsRun vars content) items

-- these items are a child
abbrev pub IsChild : Bool → Child → List Item → Type 0
IsChild vars (AnElement e) items = IsElement vars e items
IsChild vars (ABranch branch) items = IsBranch vars branch.test branch.content items
IsChild vars (AnAttempt content) items = IsPart element.Attempt (IsRun vars content) items
IsChild vars (AnExcept content) items = IsPart element.Except (IsRun vars content) items

-- the name of a branch
abbrev pub branch_name : Option Test → ElementName
branch_name None = element.Otherwise
branch_name (Some test) = element.When

-- a child may stand at the innermost place
abbrev pub Fits : Child → List Frame → Type 0
Fits (AnElement e) frames = is_run frames ≡ true
Fits (ABranch branch) frames = may_stand (branch_name branch.test) frames ≡ true
Fits (AnAttempt content) frames = may_stand element.Attempt frames ≡ true
Fits (AnExcept content) frames = may_stand element.Except frames ≡ true

-- branches with others behind them
abbrev pub branches_then : List Branch → Branches → Branches
branches_then [] rest = rest
branches_then (b ∷ bs) rest = branch_before b.test b.content (branches_then bs rest)

-- these items, with whatever other branches behind them, are the branches with those
abbrev pub BeginBranches : Bool → List Branch → List Item → Type 0
BeginBranches vars bs items =
    (rest : Branches) (more : List Item) → AreBranches vars (not (list_any is_otherwise bs)) rest more → AreBranches vars true (branches_then bs rest) (items ++ more)

-- the parts of a try so far
abbrev pub IsHalves : Bool → Halves → List Item → Type 0
IsHalves vars Neither items = AreWhite items
IsHalves vars (AttemptAlone attempt) items = AfterWhite items (IsPart element.Attempt (IsRun vars attempt)) AreWhite
IsHalves vars (ExceptAlone except) items = AfterWhite items (IsPart element.Except (IsRun vars except)) AreWhite
IsHalves vars (Both attempt except false) items =
    AfterWhite items (IsPart element.Attempt (IsRun vars attempt)) (λ rest. AfterWhite rest (IsPart element.Except (IsRun vars except)) AreWhite)
IsHalves vars (Both attempt except true) items =
    AfterWhite items (IsPart element.Except (IsRun vars except)) (λ rest. AfterWhite rest (IsPart element.Attempt (IsRun vars attempt)) AreWhite)

-- these items have been read inside, where `vars` says whether a vars element stands round the open element
abbrev pub Inside : Bool → Frame → List Item → Type 0
Inside vars (InInclude include) items = AreWhite items
Inside vars InComment items = AreWhite items
Inside vars (InInline label content) items = IsRun vars (row content) items
Inside vars (InVars content) items = IsRun true (row content) items
Inside vars (InChoose bs) items = BeginBranches vars bs items
Inside vars (InWhen test content) items = IsRun vars (row content) items
Inside vars (InOtherwise content) items = IsRun vars (row content) items
Inside vars (InTry halves) items = IsHalves vars halves items
Inside vars (InAttempt content) items = IsRun vars (row content) items
Inside vars (InExcept content) items = IsRun vars (row content) items

white-append : (us ws : List Item) → AreWhite us → AreWhite ws → AreWhite (us ++ ws)
white-append [] ws first second = second
white-append (u ∷ us) ws first second = (first.0, white-append us ws first.1 second)

splits-append : (items ws : List Item) (P Q R : List Item → Type 0) (is : Splits items P Q) → R (is.back ++ ws) → Splits (items ++ ws) P R
splits-append items ws P Q R is more = record {
  front = is.front;
  back = is.back ++ ws;
  joined = ap (λ us. us ++ ws) is.joined ∙ append_assoc is.front is.back ws;
  first = is.first;
  second = more;
}

splits-white : (white items : List Item) (Q : List Item → Type 0) → AreWhite white → Splits items AreWhite Q → Splits (white ++ items) AreWhite Q
splits-white white items Q are is = record {
  front = white ++ is.front;
  back = is.back;
  joined = ap (λ us. white ++ us) is.joined ∙ sym (append_assoc white is.front is.back);
  first = white-append white is.front are is.first;
  second = is.second;
}

-- a part behind white text, and white text of no length behind it
part-last : (white ws : List Item) (P : List Item → Type 0) → AreWhite white → P ws → AfterWhite (white ++ ws) P AreWhite
part-last white ws P are is = record {
  front = white;
  back = ws;
  joined = refl;
  first = are;
  second = record { front = ws; back = []; joined = sym (append-nil ws); first = is; second = tt };
}

pub run-push : (vars : Bool) (es : List Element) (e : Element) (us ws : List Item) → IsRun vars (row es) us → IsElement vars e ws → IsRun vars (row (es ++ e ∷ [])) (us ++ ws)
run-push vars [] e us ws run_is is =
    record { front = ws; back = []; joined = ap (λ front. front ++ ws) run_is ∙ sym (append-nil ws); first = is; second = refl }
run-push vars (x ∷ es) e us ws run_is is =
    splits-append us ws (IsElement vars x) (IsRun vars (row es)) (IsRun vars (row (es ++ e ∷ []))) run_is (run-push vars es e run_is.back ws run_is.second is)

branches-white : (vars free : Bool) (rest : Branches) (white more : List Item) → AreWhite white → AreBranches vars free rest more → AreBranches vars free rest (white ++ more)
branches-white vars free NoBranch white more are is = white-append white more are is
branches-white vars free (When test content rest) white more are is = splits-white white more _ are is
branches-white vars free (tree.Otherwise content rest) white more are is = (is.0, splits-white white more _ are is.1)

halves-white : (vars : Bool) (halves : Halves) (items ws : List Item) → AreWhite ws → IsHalves vars halves items → IsHalves vars halves (items ++ ws)
halves-white vars Neither items ws white is = white-append items ws is white
halves-white vars (AttemptAlone attempt) items ws white is =
    splits-append items ws _ _ _ is (splits-append is.back ws _ _ _ is.second (white-append is.second.back ws is.second.second white))
halves-white vars (ExceptAlone except) items ws white is =
    splits-append items ws _ _ _ is (splits-append is.back ws _ _ _ is.second (white-append is.second.back ws is.second.second white))
halves-white vars (Both attempt except false) items ws white is =
    let last = is.second.second in
    splits-append items ws _ _ _ is (splits-append is.back ws _ _ _ is.second
    (splits-append is.second.back ws _ _ _ last (splits-append last.back ws _ _ _ last.second (white-append last.second.back ws last.second.second white))))
halves-white vars (Both attempt except true) items ws white is =
    let last = is.second.second in
    splits-append items ws _ _ _ is (splits-append is.back ws _ _ _ is.second
    (splits-append is.second.back ws _ _ _ last (splits-append last.back ws _ _ _ last.second (white-append last.second.back ws last.second.second white))))

-- where no run stands, white text may follow
pub inside-white : (vars : Bool) (frame : Frame) (items ws : List Item) → holds_run frame ≡ false → AreWhite ws → Inside vars frame items → Inside vars frame (items ++ ws)
inside-white vars (InInclude include) items ws none white is = white-append items ws is white
inside-white vars InComment items ws none white is = white-append items ws is white
inside-white vars (InInline label content) items ws none white is = absurd (cc)
inside-white vars (InVars content) items ws none white is = absurd (cc)
inside-white vars (InChoose bs) items ws none white is = λ rest more are.
    let P : List Item → Type 0 = λ us. AreBranches vars true (branches_then bs rest) us in
    subst P (sym (append_assoc items ws more)) (is rest (ws ++ more) (branches-white vars (not (list_any is_otherwise bs)) rest ws more white are))
inside-white vars (InWhen test content) items ws none white is = absurd (cc)
inside-white vars (InOtherwise content) items ws none white is = absurd (cc)
inside-white vars (InTry halves) items ws none white is = halves-white vars halves items ws white is
inside-white vars (InAttempt content) items ws none white is = absurd (cc)
inside-white vars (InExcept content) items ws none white is = absurd (cc)

push-element : (vars : Bool) (e : Element) (frame : Frame) (items ws : List Item) → holds_run frame ≡ true → IsElement (is_vars frame || vars) e ws → Inside vars frame items → Inside vars (with_element e frame) (items ++ ws)
push-element vars e (InInclude include) items ws top is inside = absurd (cc)
push-element vars e InComment items ws top is inside = absurd (cc)
push-element vars e (InInline label content) items ws top is inside = run-push vars content e items ws inside is
push-element vars e (InVars content) items ws top is inside = run-push true content e items ws inside is
push-element vars e (InChoose bs) items ws top is inside = absurd (cc)
push-element vars e (InWhen test content) items ws top is inside = run-push vars content e items ws inside is
push-element vars e (InOtherwise content) items ws top is inside = run-push vars content e items ws inside is
push-element vars e (InTry halves) items ws top is inside = absurd (cc)
push-element vars e (InAttempt content) items ws top is inside = run-push vars content e items ws inside is
push-element vars e (InExcept content) items ws top is inside = run-push vars content e items ws inside is

branches_then-push : (bs : List Branch) (b : Branch) (rest : Branches) → branches_then (bs ++ b ∷ []) rest ≡ branches_then bs (branch_before b.test b.content rest)
branches_then-push [] b rest = refl
branches_then-push (x ∷ bs) b rest = ap (λ more. branch_before x.test x.content more) (branches_then-push bs b rest)

not-true : (b : Bool) → not b ≡ true → b ≡ false
not-true true e = absurd (cc)
not-true false e = refl

-- a branch of this test and content
abbrev pub branch_with : Option Test → Elements → Branch
branch_with test content = record { test = test; content = content }

-- one branch more
pub push-branch : (vars : Bool) (bs : List Branch) (test : Option Test) (content : Elements) (items ws : List Item) → stands_in_choose (branch_name test) bs ≡ true → IsBranch vars test content ws → BeginBranches vars bs items → BeginBranches vars (bs ++ branch_with test content ∷ []) (items ++ ws)
push-branch vars bs (Some test) content items ws may is inside = λ rest more are.
    let branch = branch_with (Some test) content in
    let same : list_any is_otherwise (bs ++ branch ∷ []) ≡ list_any is_otherwise bs = list_any-append is_otherwise bs (branch ∷ []) ∙ or-false (list_any is_otherwise bs) in
    let Behind : Bool → Type 0 = λ some. AreBranches vars (not some) rest more in
    let whole : AreBranches vars true (branches_then bs (When test content rest)) (items ++ (ws ++ more)) =
    inside (When test content rest) (ws ++ more)
    (record { front = []; back = ws ++ more; joined = refl; first = tt; second = record { front = ws; back = more; joined = refl; first = is; second = subst Behind same are } }) in
    let P : List Item → Type 0 = λ us. AreBranches vars true (branches_then bs (When test content rest)) us in
    let Q : Branches → Type 0 = λ all. AreBranches vars true all ((items ++ ws) ++ more) in
    subst Q (sym (branches_then-push bs branch rest)) (subst P (sym (append_assoc items ws more)) whole)
push-branch vars bs None content items ws may is inside = λ rest more are.
    let branch = branch_with None content in
    let same : list_any is_otherwise (bs ++ branch ∷ []) ≡ true = list_any-append is_otherwise bs (branch ∷ []) ∙ ap (λ b. b || true) (not-true (list_any is_otherwise bs) may) in
    let Behind : Bool → Type 0 = λ some. AreBranches vars (not some) rest more in
    let whole : AreBranches vars true (branches_then bs (tree.Otherwise content rest)) (items ++ (ws ++ more)) =
    inside (tree.Otherwise content rest) (ws ++ more)
    (may, record { front = []; back = ws ++ more; joined = refl; first = tt; second = record { front = ws; back = more; joined = refl; first = is; second = subst Behind same are } }) in
    let P : List Item → Type 0 = λ us. AreBranches vars true (branches_then bs (tree.Otherwise content rest)) us in
    let Q : Branches → Type 0 = λ all. AreBranches vars true all ((items ++ ws) ++ more) in
    subst Q (sym (branches_then-push bs branch rest)) (subst P (sym (append_assoc items ws more)) whole)

pub branch-no_run : (test : Option Test) → stands_in_run (branch_name test) ≡ true → ⊥
branch-no_run None e = absurd (cc)
branch-no_run (Some test) e = absurd (cc)

branch-no_try : (test : Option Test) (halves : Halves) → stands_in_try (branch_name test) halves ≡ true → ⊥
branch-no_try None halves e = absurd (cc)
branch-no_try (Some test) halves e = absurd (cc)

push-branch_in : (vars : Bool) (test : Option Test) (content : Elements) (frame : Frame) (items ws : List Item) → stands_in (branch_name test) frame ≡ true → IsBranch (is_vars frame || vars) test content ws → Inside vars frame items
    → Inside vars (with_branch (branch_with test content) frame) (items ++ ws)
push-branch_in vars test content (InInclude include) items ws may is inside = absurd (cc)
push-branch_in vars test content InComment items ws may is inside = absurd (cc)
push-branch_in vars test content (InInline label others) items ws may is inside = absurd (branch-no_run test may)
push-branch_in vars test content (InVars others) items ws may is inside = absurd (branch-no_run test may)
push-branch_in vars test content (InChoose bs) items ws may is inside = push-branch vars bs test content items ws may is inside
push-branch_in vars test content (InWhen other others) items ws may is inside = absurd (branch-no_run test may)
push-branch_in vars test content (InOtherwise others) items ws may is inside = absurd (branch-no_run test may)
push-branch_in vars test content (InTry halves) items ws may is inside = absurd (branch-no_try test halves may)
push-branch_in vars test content (InAttempt others) items ws may is inside = absurd (branch-no_run test may)
push-branch_in vars test content (InExcept others) items ws may is inside = absurd (branch-no_run test may)

-- a try's attempt, and its except
pub halves-attempt : (vars : Bool) (content : Elements) (halves : Halves) (items ws : List Item) → stands_in_try element.Attempt halves ≡ true → IsPart element.Attempt (IsRun vars content) ws → IsHalves vars halves items → IsHalves vars (with_attempt content halves) (items ++ ws)
halves-attempt vars content Neither items ws may is inside = part-last items ws _ inside is
halves-attempt vars content (AttemptAlone attempt) items ws may is inside = absurd (cc)
halves-attempt vars content (ExceptAlone except) items ws may is inside =
    splits-append items ws _ _ _ inside (splits-append inside.back ws _ _ _ inside.second (part-last inside.second.back ws _ inside.second.second is))
halves-attempt vars content (Both attempt except swapped) items ws may is inside = absurd (cc)

pub halves-except : (vars : Bool) (content : Elements) (halves : Halves) (items ws : List Item) → stands_in_try element.Except halves ≡ true → IsPart element.Except (IsRun vars content) ws → IsHalves vars halves items → IsHalves vars (with_except content halves) (items ++ ws)
halves-except vars content Neither items ws may is inside = part-last items ws _ inside is
halves-except vars content (AttemptAlone attempt) items ws may is inside =
    splits-append items ws _ _ _ inside (splits-append inside.back ws _ _ _ inside.second (part-last inside.second.back ws _ inside.second.second is))
halves-except vars content (ExceptAlone except) items ws may is inside = absurd (cc)
halves-except vars content (Both attempt except swapped) items ws may is inside = absurd (cc)

push-attempt : (vars : Bool) (content : Elements) (frame : Frame) (items ws : List Item) → stands_in element.Attempt frame ≡ true → IsPart element.Attempt (IsRun (is_vars frame || vars) content) ws → Inside vars frame items → Inside vars (with_half (with_attempt content) frame) (items ++ ws)
push-attempt vars content (InInclude include) items ws may is inside = absurd (cc)
push-attempt vars content InComment items ws may is inside = absurd (cc)
push-attempt vars content (InInline label others) items ws may is inside = absurd (cc)
push-attempt vars content (InVars others) items ws may is inside = absurd (cc)
push-attempt vars content (InChoose bs) items ws may is inside = absurd (cc)
push-attempt vars content (InWhen test others) items ws may is inside = absurd (cc)
push-attempt vars content (InOtherwise others) items ws may is inside = absurd (cc)
push-attempt vars content (InTry halves) items ws may is inside = halves-attempt vars content halves items ws may is inside
push-attempt vars content (InAttempt others) items ws may is inside = absurd (cc)
push-attempt vars content (InExcept others) items ws may is inside = absurd (cc)

push-except : (vars : Bool) (content : Elements) (frame : Frame) (items ws : List Item) → stands_in element.Except frame ≡ true → IsPart element.Except (IsRun (is_vars frame || vars) content) ws → Inside vars frame items → Inside vars (with_half (with_except content) frame) (items ++ ws)
push-except vars content (InInclude include) items ws may is inside = absurd (cc)
push-except vars content InComment items ws may is inside = absurd (cc)
push-except vars content (InInline label others) items ws may is inside = absurd (cc)
push-except vars content (InVars others) items ws may is inside = absurd (cc)
push-except vars content (InChoose bs) items ws may is inside = absurd (cc)
push-except vars content (InWhen test others) items ws may is inside = absurd (cc)
push-except vars content (InOtherwise others) items ws may is inside = absurd (cc)
push-except vars content (InTry halves) items ws may is inside = halves-except vars content halves items ws may is inside
push-except vars content (InAttempt others) items ws may is inside = absurd (cc)
push-except vars content (InExcept others) items ws may is inside = absurd (cc)

-- one child more
pub inside-push : (vars : Bool) (child : Child) (frame : Frame) (outer : List Frame) (items ws : List Item) → Fits child (frame ∷ outer) → IsChild (is_vars frame || vars) child ws → Inside vars frame items → Inside vars (grown child frame) (items ++ ws)
inside-push vars (AnElement e) frame outer items ws fit is inside = push-element vars e frame items ws fit is inside
inside-push vars (ABranch branch) frame outer items ws fit is inside = push-branch_in vars branch.test branch.content frame items ws fit is inside
inside-push vars (AnAttempt content) frame outer items ws fit is inside = push-attempt vars content frame items ws fit is inside
inside-push vars (AnExcept content) frame outer items ws fit is inside = push-except vars content frame items ws fit is inside
