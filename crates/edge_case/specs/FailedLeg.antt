-- The leg at which the page of a case fails.
use Rattle.std.specs.Prelude.{◌≡◌, ℕ, List, Option, IfSome}
use Rattle.edge_types.specs.declared.outcome.PageFault.TheVariants.{IncludeFailed}
use Rattle.edge_types.specs.declared.request.Request.{Request}
use Rattle.edge_types.specs.Answered.{Answered}
use Rattle.edge_types.specs.Outcome.{Shown, Fault}
use Rattle.edge_types.specs.Table.{Agrees}
use Rattle.answer_board.specs.Board.{log_of}
use Rattle.plan_machine.specs.LastLeg.{failed_answer}
use Rattle.plan_runner.specs.Page.{Page}
use Rattle.plan_runner.specs.Sound.{IsOutcomeOf}
use Rattle.edge_case.specs.declared.case_text.Case.{Case}
use Rattle.edge_case.specs.Run.{Reads, outcome_of}

-- where an include failed a page, this is the answer of the leg at which it failed, over the answers that are logged
pub record IsFailedLeg (request : Request) (levels : ℕ) (url : List ℕ) (log : List Answered) (outcome : Shown) (leg : Option Answered) : Type 0 where
  -- the outcome rests on these answers alone
  pub rests : IsOutcomeOf request levels url log outcome
  pub failed : outcome ≡ Fault IncludeFailed → leg ≡ failed_answer request log levels url
  pub others : IfSome leg (λ _. outcome ≡ Fault IncludeFailed)

abbrev pub IsFailedLegAt : Page → Shown → Option Answered → Type 0
IsFailedLegAt page outcome leg = IsFailedLeg page.request page.levels page.url (log_of page.board) outcome leg

-- the same of the page of a case, where what is logged are answers of its table
pub record IsFailedLegOf (case : Case) (levels : ℕ) (leg : Option Answered) : Type 0 where
  pub log : List Answered
  pub agrees : Agrees log case.table
  pub at : IsFailedLeg case.request levels case.url log (outcome_of case levels) leg

-- the same of the page of the case that the input is
pub record FailsAtLeg (levels : ℕ) (known : Option (List ℕ)) (leg : Option Answered) : Type 0 where
  pub case : Case
  pub read : Reads known case
  pub leg_is : IsFailedLegOf case levels leg
