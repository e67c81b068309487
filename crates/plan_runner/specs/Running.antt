-- How far a page is, over the answers that are logged.
use Rattle.std.specs.Prelude.{◌≡◌, ◌⊎◌, ℕ, ◌+◌, min, false, List, Some, None}
use Rattle.edge_types.specs.declared.head.Head.{Head}
use Rattle.edge_types.specs.declared.request.Request.{Request}
use Rattle.edge_types.specs.declared.outcome.PageFault.TheVariants.{PageFetch, BadTemplate, IncludeFailed, TooManyLegs}
use Rattle.edge_types.specs.Answered.{Answered}
use Rattle.edge_types.specs.Outcome.{Shown, Page, Fault, shown}
use Rattle.edge_types.specs.Table.{answer_of}
use Rattle.esi_meaning.specs.State.{Done}
use Rattle.esi_tree.specs.Tree.{Elements}
use Rattle.answer_board.specs.Board.{State, log_of}
use Rattle.plan_machine.specs.Laws.{IsPage}
use Rattle.plan_machine.specs.Machine.{Waits, start, step}
use Rattle.plan_machine.specs.Progress.{Ready}
use Rattle.plan_machine.specs.Told.{told}
use Rattle.plan_runner.specs.declared.advance.Progress.{Progress}
use Rattle.plan_runner.specs.declared.course.Begun.{Begun}
use Rattle.plan_runner.specs.declared.course.Begun.TheVariants as begun
use Rattle.plan_runner.specs.declared.course.Came.{Came}
use Rattle.plan_runner.specs.declared.course.Came.TheVariants as came
use Rattle.plan_runner.specs.LastLeg.{FailsBy}
use Rattle.plan_runner.specs.Resumed.{StandsAt}
use Rattle.plan_runner.specs.Shown.{shown_frames, shown_machine, ArePlaced}

-- the step that meets one leg too many is counted on top of those that were made
abbrev pub last_step : Shown → ℕ
last_step (Page head body) = 0
last_step (Fault PageFetch) = 0
last_step (Fault (BadTemplate place)) = 0
last_step (Fault IncludeFailed) = 0
last_step (Fault TooManyLegs) = 1

-- the page's own answer is logged, and a template
pub record IsTemplate (log : List Answered) (u : List ℕ) : Type 0 where
  pub tree : Elements
  pub head : Head
  pub page : IsPage log u tree head

module _ (r : Request) (L : ℕ) (u : List ℕ) (b : State) where
  -- the page is a template, and its machine is where one is that was started afresh over the logged answers
  pub record IsRunning (p : Progress) : Type 0 where
    pub tree : Elements
    pub head : Head
    pub page : IsPage (log_of b) u tree head
    pub stands : StandsAt r b (start L u tree) p
    pub placed : ArePlaced b p.machine.frames
    pub ready : Ready p.machine.failed (shown_frames b p.machine.frames)
    pub going : p.machine.failed ≡ false

  -- after some number of steps the page reports this outcome, and the count of steps is this number
  pub record IsDone (steps : ℕ) (outcome : Shown) : Type 0 where
    pub count : ℕ
    pub tells : told r (log_of b) L u count ≡ Some (Done outcome)
    -- a page without a plan makes none
    pub planned : IsTemplate (log_of b) u ⊎ (count ≡ 0)
    pub steps_are : steps ≡ min (count + last_step outcome) 18446744073709551615

  -- what the page's own answer results in
  abbrev pub Begins : Progress → Progress → Begun → Type 0
  Begins old new begun.Missing = (answer_of (log_of b) u ≡ None) × (new ≡ old)
  Begins old new begun.Running = IsRunning new
  Begins old new (begun.Done outcome) = IsDone 0 (shown outcome) × (new ≡ old) × (shown outcome ≡ Fault IncludeFailed → ⊥)

  -- the machine waits here for this URL
  pub record IsWaiting (p : Progress) (level : ℕ) (w : List ℕ) : Type 0 where
    pub running : IsRunning p
    pub waits : step r (log_of b) (shown_machine b p.machine) ≡ Waits level w

  -- what the page resulted in
  abbrev pub Comes : Progress → Came → Type 0
  Comes p came.Unread = (answer_of (log_of b) u ≡ None) × (p.steps ≡ 0)
  Comes p (came.Waits level w) = IsWaiting p level w
  Comes p (came.Done outcome) = IsDone p.steps (shown outcome) × FailsBy r b L u p.machine.last (shown outcome)
