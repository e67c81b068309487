use Rattle.edge_case.proofs.FailedLegs.{leg_of_case, not_bad}
use Rattle.edge_case.proofs.runner.print_case.Goals as goal

pub returns-in_err-failed_leg-clause-never_bad : goal.returns-in_err-failed_leg-clause-never_bad
returns-in_err-failed_leg-clause-never_bad g c = not_bad c.from_residual-in_err-failed_leg.result c.from_residual-in_err-failed_leg.ensures.1

pub returns-in-Ok-clause-leg : goal.returns-in-Ok-clause-leg
returns-in-Ok-clause-leg g c = leg_of_case _ _ _ _ _ _ c.in_ok-page.ensures.outcome c.in_ok-page.ensures.page c.in_ok-failed_leg.ensures
