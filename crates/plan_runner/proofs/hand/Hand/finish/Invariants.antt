use Rattle.plan_runner.specs.Holding.{IsHeld, IsSameBut, left}
use Rattle.plan_runner.proofs.hand.Hand.finish.Given as goal

abbrev pub invariant-loop-outcome : goal.invariant-loop-outcome
invariant-loop-outcome l = record {
  held : IsHeld l.table l.self;
  same : IsSameBut l.fn.self.page l.self.page;
}

abbrev pub decreases-loop-outcome : goal.decreases-loop-outcome
decreases-loop-outcome l = left l.table l.self.page
