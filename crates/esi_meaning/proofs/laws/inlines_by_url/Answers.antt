use Rattle.esi_meaning.proofs.InlineLemmas.{inlines_by_url}
use Rattle.esi_meaning.proofs.laws.inlines_by_url.Goals as goal

pub returns : goal.returns
returns c = inlines_by_url
