use Rattle.std.proofs.Common.{arith}
use Rattle.fetch_workers.proofs.Filled.{own_are_log}
use Rattle.fetch_workers.proofs.log.is_log_of.Goals as goal

pub returns : goal.returns
returns c = λ yes. own_are_log c.args.page.now.board c.args.own.now c.loop-i.invariant.0 (λ k below. c.loop-i.invariant.1 k (omega (arith, below, c.loop-i-test.false, c.loop-i.auto.i-end)))
