-- What may stand at a place, and what a child more there leaves as it was.
use Rattle.std.proofs.Common.{◌≡◌, true, List, [], ◌∷◌, ◌||◌, refl, ap}
use Rattle.esi_scanner.specs.declared.element_name.ElementName.{ElementName}
use Rattle.esi_scanner.specs.declared.element_name.ElementName.TheVariants as element
use Rattle.esi_tree.specs.Tree.{Element}
use Rattle.esi_tree.specs.Shown.{Branch}
use Rattle.esi_tree.specs.Reading.{Halves, Neither, Frame, InInclude, InComment, InInline, InVars, InChoose, InWhen, InOtherwise, InTry, InAttempt, InExcept, Child, AnElement, ABranch, AnAttempt, AnExcept, with_element, with_branch, with_half, with_attempt, with_except, grown, put_in, holds_run, is_run, is_vars, in_vars, stands_in_run, stands_in_choose, stands_in_try, may_stand, name_of}

-- an open element as it was when its tag had been read
abbrev pub emptied : Frame → Frame
emptied (InInclude include) = InInclude include
emptied InComment = InComment
emptied (InInline name content) = InInline name []
emptied (InVars content) = InVars []
emptied (InChoose branches) = InChoose []
emptied (InWhen test content) = InWhen test []
emptied (InOtherwise content) = InOtherwise []
emptied (InTry halves) = InTry Neither
emptied (InAttempt content) = InAttempt []
emptied (InExcept content) = InExcept []

-- the same element, where more may have been read inside
pub record Keeps (frame more : Frame) : Type 0 where
  pub holds : holds_run more ≡ holds_run frame
  pub vars : is_vars more ≡ is_vars frame
  pub named : name_of more ≡ name_of frame
  pub empty : emptied more ≡ emptied frame

keeps-element : (e : Element) (frame : Frame) → Keeps frame (with_element e frame)
keeps-element e (InInclude include) = record { holds = refl; vars = refl; named = refl; empty = refl }
keeps-element e InComment = record { holds = refl; vars = refl; named = refl; empty = refl }
keeps-element e (InInline name content) = record { holds = refl; vars = refl; named = refl; empty = refl }
keeps-element e (InVars content) = record { holds = refl; vars = refl; named = refl; empty = refl }
keeps-element e (InChoose branches) = record { holds = refl; vars = refl; named = refl; empty = refl }
keeps-element e (InWhen test content) = record { holds = refl; vars = refl; named = refl; empty = refl }
keeps-element e (InOtherwise content) = record { holds = refl; vars = refl; named = refl; empty = refl }
keeps-element e (InTry halves) = record { holds = refl; vars = refl; named = refl; empty = refl }
keeps-element e (InAttempt content) = record { holds = refl; vars = refl; named = refl; empty = refl }
keeps-element e (InExcept content) = record { holds = refl; vars = refl; named = refl; empty = refl }

keeps-branch : (branch : Branch) (frame : Frame) → Keeps frame (with_branch branch frame)
keeps-branch branch (InInclude include) = record { holds = refl; vars = refl; named = refl; empty = refl }
keeps-branch branch InComment = record { holds = refl; vars = refl; named = refl; empty = refl }
keeps-branch branch (InInline name content) = record { holds = refl; vars = refl; named = refl; empty = refl }
keeps-branch branch (InVars content) = record { holds = refl; vars = refl; named = refl; empty = refl }
keeps-branch branch (InChoose branches) = record { holds = refl; vars = refl; named = refl; empty = refl }
keeps-branch branch (InWhen test content) = record { holds = refl; vars = refl; named = refl; empty = refl }
keeps-branch branch (InOtherwise content) = record { holds = refl; vars = refl; named = refl; empty = refl }
keeps-branch branch (InTry halves) = record { holds = refl; vars = refl; named = refl; empty = refl }
keeps-branch branch (InAttempt content) = record { holds = refl; vars = refl; named = refl; empty = refl }
keeps-branch branch (InExcept content) = record { holds = refl; vars = refl; named = refl; empty = refl }

keeps-half : (more : Halves → Halves) (frame : Frame) → Keeps frame (with_half more frame)
keeps-half more (InInclude include) = record { holds = refl; vars = refl; named = refl; empty = refl }
keeps-half more InComment = record { holds = refl; vars = refl; named = refl; empty = refl }
keeps-half more (InInline name content) = record { holds = refl; vars = refl; named = refl; empty = refl }
keeps-half more (InVars content) = record { holds = refl; vars = refl; named = refl; empty = refl }
keeps-half more (InChoose branches) = record { holds = refl; vars = refl; named = refl; empty = refl }
keeps-half more (InWhen test content) = record { holds = refl; vars = refl; named = refl; empty = refl }
keeps-half more (InOtherwise content) = record { holds = refl; vars = refl; named = refl; empty = refl }
keeps-half more (InTry halves) = record { holds = refl; vars = refl; named = refl; empty = refl }
keeps-half more (InAttempt content) = record { holds = refl; vars = refl; named = refl; empty = refl }
keeps-half more (InExcept content) = record { holds = refl; vars = refl; named = refl; empty = refl }

pub keeps : (child : Child) (frame : Frame) → Keeps frame (grown child frame)
keeps (AnElement e) frame = keeps-element e frame
keeps (ABranch branch) frame = keeps-branch branch frame
keeps (AnAttempt content) frame = keeps-half (with_attempt content) frame
keeps (AnExcept content) frame = keeps-half (with_except content) frame

pub put-is_run : (child : Child) (frames : List Frame) (content : List Element) → is_run (put_in child frames content).frames ≡ is_run frames
put-is_run child [] content = refl
put-is_run child (frame ∷ outer) content = (keeps child frame).holds

pub put-in_vars : (child : Child) (frames : List Frame) (content : List Element) → in_vars (put_in child frames content).frames ≡ in_vars frames
put-in_vars child [] content = refl
put-in_vars child (frame ∷ outer) content = ap (λ b. b || in_vars outer) (keeps child frame).vars

-- where a run stands, any element that stands in runs may stand
pub may_stand-run : (name : ElementName) (frames : List Frame) → is_run frames ≡ true → may_stand name frames ≡ stands_in_run name
may_stand-run name [] top = refl
may_stand-run name (InInclude include ∷ outer) top = absurd (cc)
may_stand-run name (InComment ∷ outer) top = absurd (cc)
may_stand-run name (InInline label content ∷ outer) top = refl
may_stand-run name (InVars content ∷ outer) top = refl
may_stand-run name (InChoose branches ∷ outer) top = absurd (cc)
may_stand-run name (InWhen test content ∷ outer) top = refl
may_stand-run name (InOtherwise content ∷ outer) top = refl
may_stand-run name (InTry halves ∷ outer) top = absurd (cc)
may_stand-run name (InAttempt content ∷ outer) top = refl
may_stand-run name (InExcept content ∷ outer) top = refl

no-choose : (name : ElementName) (branches : List Branch) → stands_in_run name ≡ true → stands_in_choose name branches ≡ true → ⊥
no-choose element.When branches in_run in_choose = absurd (cc)
no-choose element.Otherwise branches in_run in_choose = absurd (cc)
no-choose _ branches in_run in_choose = absurd (cc)

no-try : (name : ElementName) (halves : Halves) → stands_in_run name ≡ true → stands_in_try name halves ≡ true → ⊥
no-try element.Attempt halves in_run in_try = absurd (cc)
no-try element.Except halves in_run in_try = absurd (cc)
no-try _ halves in_run in_try = absurd (cc)

-- and where such an element may stand, a run stands
pub is_run-may_stand : (name : ElementName) (frames : List Frame) → stands_in_run name ≡ true → may_stand name frames ≡ true → is_run frames ≡ true
is_run-may_stand name [] in_run may = refl
is_run-may_stand name (InInclude include ∷ outer) in_run may = absurd (cc)
is_run-may_stand name (InComment ∷ outer) in_run may = absurd (cc)
is_run-may_stand name (InInline label content ∷ outer) in_run may = refl
is_run-may_stand name (InVars content ∷ outer) in_run may = refl
is_run-may_stand name (InChoose branches ∷ outer) in_run may = absurd (no-choose name branches in_run may)
is_run-may_stand name (InWhen test content ∷ outer) in_run may = refl
is_run-may_stand name (InOtherwise content ∷ outer) in_run may = refl
is_run-may_stand name (InTry halves ∷ outer) in_run may = absurd (no-try name halves in_run may)
is_run-may_stand name (InAttempt content ∷ outer) in_run may = refl
is_run-may_stand name (InExcept content ∷ outer) in_run may = refl
