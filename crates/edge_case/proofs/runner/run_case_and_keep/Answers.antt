use Rattle.edge_case.proofs.Runs.{prints}
use Rattle.edge_case.proofs.runner.run_case_and_keep.Goals as goal

pub returns-clause-printed : goal.returns-clause-printed
returns-clause-printed g c = prints _ _ _ _ _ c.in_ok-case.case c.in_ok-case.ensures.ok c.in_ok-end.ensures.end c.in_ok-end.ensures.written
