use Rattle.esi_meaning.proofs.WaitLaws.{waits_at_leg}
use Rattle.esi_meaning.proofs.laws.waits_at_leg.Goals as goal

pub returns : goal.returns
returns c = waits_at_leg
