use Rattle.esi_meaning.proofs.InlineLemmas.{first_inline_counts}
use Rattle.esi_meaning.proofs.laws.first_inline_counts.Goals as goal

pub returns : goal.returns
returns c = first_inline_counts
