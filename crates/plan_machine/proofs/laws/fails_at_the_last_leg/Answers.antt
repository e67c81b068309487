use Rattle.plan_machine.proofs.LastLeg.{fails_at_the_last_leg}
use Rattle.plan_machine.proofs.laws.fails_at_the_last_leg.Goals as goal

pub returns : goal.returns
returns c = fails_at_the_last_leg
