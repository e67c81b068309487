use Rattle.esi_meaning.proofs.LawLemmas.{asks_few}
use Rattle.esi_meaning.proofs.laws.asks_few.Goals as goal

pub returns : goal.returns
returns c = asks_few
