use Rattle.esi_meaning.proofs.StateLaws.{done_is_outcome}
use Rattle.esi_meaning.proofs.laws.done_is_outcome.Goals as goal

pub returns : goal.returns
returns c = done_is_outcome
