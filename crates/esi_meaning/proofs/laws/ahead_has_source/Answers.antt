use Rattle.esi_meaning.proofs.LawLemmas.{ahead_has_source}
use Rattle.esi_meaning.proofs.laws.ahead_has_source.Goals as goal

pub returns : goal.returns
returns c = ahead_has_source
