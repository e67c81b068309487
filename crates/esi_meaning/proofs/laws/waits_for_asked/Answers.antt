use Rattle.esi_meaning.proofs.StateLaws.{waits_for_asked}
use Rattle.esi_meaning.proofs.laws.waits_for_asked.Goals as goal

pub returns : goal.returns
returns c = waits_for_asked
