use Rattle.std.proofs.Common.{length}
use Rattle.plan_runner.specs.Events.{Held, Happen}
use Rattle.plan_runner.specs.Holding.{IsHeld}
use Rattle.plan_runner.proofs.events.run_all.Given as goal

abbrev pub invariant-loop-event : goal.invariant-loop-event
invariant-loop-event l = record {
  held : IsHeld l.table l.hand;
  happen : (end : Held) → Happen l.table l.rest l.hand end → Happen l.table l.fn.events l.fn.hand end;
}

abbrev pub decreases-loop-event : goal.decreases-loop-event
decreases-loop-event l = length l.rest
