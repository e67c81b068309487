use Rattle.plan_runner.proofs.Placing.{placed_both}
use Rattle.plan_runner.proofs.machine.go_on.Goals as goal

pub returns-clause-placed : goal.returns-clause-placed
returns-clause-placed c =
    λ log first rest. c.in_ok-settle.ensures.placed log (placed_both log c.push.new.self c.args.frame c.args.machine.now.frames c.in_ok-push.ensures first rest)
