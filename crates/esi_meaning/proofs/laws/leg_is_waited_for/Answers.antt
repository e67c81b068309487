use Rattle.esi_meaning.proofs.WaitLaws.{leg_is_waited_for}
use Rattle.esi_meaning.proofs.laws.leg_is_waited_for.Goals as goal

pub returns : goal.returns
returns c = leg_is_waited_for
