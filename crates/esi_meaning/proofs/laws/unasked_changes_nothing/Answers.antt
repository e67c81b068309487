use Rattle.esi_meaning.proofs.LawLemmas.{unasked_changes_nothing}
use Rattle.esi_meaning.proofs.laws.unasked_changes_nothing.Goals as goal

pub returns : goal.returns
returns c = unasked_changes_nothing
