-- Which leg a page remembers: the one that was tried last, by the slot of the answer that it asked for.
use Rattle.std.specs.Prelude.{◌≡◌, ℕ, true, List, Option, Some, None, ⊤}
use Rattle.edge_types.specs.declared.head.Head.{Head}
use Rattle.edge_types.specs.declared.outcome.PageFault.TheVariants.{IncludeFailed}
use Rattle.edge_types.specs.declared.request.Request.{Request}
use Rattle.edge_types.specs.Answered.{Answered}
use Rattle.edge_types.specs.Outcome.{Shown, Fault}
use Rattle.edge_types.specs.Table.{answer_of}
use Rattle.esi_meaning.specs.Run.{Leg}
use Rattle.esi_tree.specs.Tree.{Elements}
use Rattle.answer_board.specs.Board.{State, answer_at, log_of}
use Rattle.plan_machine.specs.LastLeg.{last_url, tried_in}
use Rattle.plan_machine.specs.Laws.{IsPage}
use Rattle.plan_machine.specs.Machine.{Machine, Went, after, start, step}
use Rattle.plan_runner.specs.declared.machine.Machine as code_machine
use Rattle.plan_runner.specs.declared.page.Stage.{Stage}
use Rattle.plan_runner.specs.declared.page.Stage.TheVariants.{Unread, Running, Done, Broken}
use Rattle.plan_runner.specs.declared.step.Reached as code
use Rattle.plan_runner.specs.declared.step.Reached.TheVariants as reached

-- the slot has this answer; or there is no slot, and no answer
abbrev pub IsHeldAt : State → Option ℕ → Option Answered → Type 0
IsHeldAt b None None = ⊤
IsHeldAt b (Some number) (Some answer) = answer_at b.slots number ≡ Some answer
IsHeldAt b None (Some answer) = ⊥
IsHeldAt b (Some number) None = ⊥

-- the slot has the answer of this URL; or there is no slot, and no URL
abbrev pub IsSlotOf : State → Option ℕ → Option (List ℕ) → Type 0
IsSlotOf b None None = ⊤
IsSlotOf b (Some number) (Some url) = (answer : Answered) × (answer_at b.slots number ≡ Some answer) × (answer_of (log_of b) url ≡ Some answer)
IsSlotOf b None (Some url) = ⊥
IsSlotOf b (Some number) None = ⊥

-- the slot has the answer that the last of these legs asked for
abbrev pub IsLast : State → Option ℕ → List Leg → Type 0
IsLast b slot legs = IsSlotOf b slot (last_url legs)

-- after a step that was made and failed the page, the machine has the leg that the step tried; one that wasn't made leaves
-- what it has
abbrev pub Remembers : State → List Leg → code_machine.Machine → code_machine.Machine → code.Reached → Type 0
Remembers b tried old new reached.Went = new.failed ≡ true → IsLast b new.last tried
Remembers b tried old new (reached.Waits level url) = new.last ≡ old.last
Remembers b tried old new reached.TooMany = new.last ≡ old.last
Remembers b tried old new reached.End = new.last ≡ old.last

module _ (r : Request) (b : State) where
  -- a step after which the machine had failed, and the slot of the leg that this step tried
  pub record FailedAt (first : Machine) (last : Option ℕ) : Type 0 where
    pub count : ℕ
    pub before : Machine
    pub failed : Machine
    pub there : after r (log_of b) count first ≡ Some before
    pub fails : step r (log_of b) before ≡ Went failed
    pub is_failed : failed.failed ≡ true
    pub is_last : IsLast b last (tried_in r before.frames)

  abbrev pub FailsAt : Machine → code_machine.Machine → Type 0
  FailsAt first m = m.failed ≡ true → FailedAt first m.last

  module _ (L : ℕ) (u : List ℕ) where
    -- the page is a template whose machine failed at this leg
    pub record IsFailedPage (last : Option ℕ) : Type 0 where
      pub tree : Elements
      pub head : Head
      pub page : IsPage (log_of b) u tree head
      pub failed_at : FailedAt (start L u tree) last

    -- a page whose outcome is that it failed
    abbrev pub FailsBy : Option ℕ → Shown → Type 0
    FailsBy last outcome = outcome ≡ Fault IncludeFailed → IsFailedPage last

    -- what holds of the leg that a page remembers, by how far it is
    abbrev pub IsLegOf : Option ℕ → Stage → Type 0
    IsLegOf last Unread = ⊤
    IsLegOf last Running = ⊤
    IsLegOf last (Done outcome) = FailsBy last outcome
    IsLegOf last Broken = ⊤
