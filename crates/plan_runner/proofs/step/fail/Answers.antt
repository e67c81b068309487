use Rattle.plan_runner.proofs.Placing.{placed_both, placed_same}
use Rattle.std.proofs.Common.{refl}
use Rattle.plan_runner.proofs.step.fail.Goals as goal

pub returns-clause-placed : goal.returns-clause-placed
returns-clause-placed c =
    λ log first rest. c.in_ok-unwind.ensures.placed log (placed_both log c.push.new.self _ c.args.machine.now.frames c.in_ok-push.ensures (placed_same log c.args.frame _ refl first) rest)
