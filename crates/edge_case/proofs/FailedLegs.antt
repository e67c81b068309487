-- The leg at which the page of a case fails.
use Rattle.std.proofs.Common.{◌≡◌, ◌≢◌, ℕ, List, Option, Result, Ok, Err, IfErr, IsErrAnd, subst}
use Rattle.edge_types.specs.declared.request.Request.{Request}
use Rattle.edge_types.specs.Answered.{Answered}
use Rattle.edge_types.specs.Outcome.{Shown}
use Rattle.answer_board.specs.Board.{log_of}
use Rattle.plan_runner.specs.Holding.{IsAtEnd}
use Rattle.plan_runner.specs.Page.{Page, Finished, accepted}
use Rattle.edge_case.specs.declared.case_text.Case.{Case}
use Rattle.edge_case.specs.declared.ending.CaseFault.{CaseFault}
use Rattle.edge_case.specs.declared.ending.CaseFault.TheVariants.{BadCase, NoMemory}
use Rattle.edge_case.specs.FailedLeg.{IsFailedLeg, IsFailedLegAt, IsFailedLegOf}
use Rattle.edge_case.specs.Run.{outcome_of}

-- a page that ran to its end over the table of a case is the page of the case
pub leg_of_case : (case : Case) (levels ahead : ℕ) (page : Page) (o : Shown) (leg : Option Answered) → o ≡ outcome_of case levels → IsAtEnd case.table (accepted case.url case.request ahead levels) page o
    → ((x : Shown) → page.standing ≡ Finished x → IsFailedLegAt page x leg) → IsFailedLegOf case levels leg
leg_of_case case levels ahead page o leg is end known =
    let log : List Answered = log_of page.board in
    record {
      log = log;
      agrees = end.agrees;
      at =
          subst (λ (x : Shown). IsFailedLeg case.request levels case.url log x leg) is
          (subst (λ (u : List ℕ). IsFailedLeg case.request levels u log o leg) end.same.url
          (subst (λ (n : ℕ). IsFailedLeg case.request n page.url log o leg) end.same.levels
          (subst (λ (r : Request). IsFailedLeg r page.levels page.url log o leg) end.same.request (known o end.standing))));
    }

-- want of memory isn't a text that is no case
pub not_bad : {A : Type 0} (r : Result A CaseFault) → IsErrAnd r (λ e. e ≡ NoMemory) → IfErr r (λ e. e ≢ BadCase)
not_bad (Ok a) is = absurd is
not_bad (Err e) is = λ same. cc (is, same)
