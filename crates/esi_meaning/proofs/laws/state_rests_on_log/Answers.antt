use Rattle.esi_meaning.proofs.StateLemmas.{state_rests_on_log}
use Rattle.esi_meaning.proofs.laws.state_rests_on_log.Goals as goal

pub returns : goal.returns
returns c = state_rests_on_log
