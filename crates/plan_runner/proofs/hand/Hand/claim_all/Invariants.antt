use Rattle.plan_runner.specs.Holding.{IsHeld, OnlyClaims, unclaimed}
use Rattle.plan_runner.proofs.hand.Hand.claim_all.Given as goal

abbrev pub invariant-loop : goal.invariant-loop
invariant-loop l = record {
  held : IsHeld l.table l.self;
  only : OnlyClaims l.table l.fn.self.page l.self.page;
}

abbrev pub decreases-loop : goal.decreases-loop
decreases-loop l = unclaimed l.self.page.board.slots
