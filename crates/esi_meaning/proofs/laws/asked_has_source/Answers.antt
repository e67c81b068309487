use Rattle.esi_meaning.proofs.AskedLemmas.{asked_has_source}
use Rattle.esi_meaning.proofs.laws.asked_has_source.Goals as goal

pub returns : goal.returns
returns c = asked_has_source
