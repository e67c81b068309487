use Rattle.edge_types.proofs.TrimLemmas.{trims_texts}
use Rattle.edge_types.proofs.laws.blanks_at_the_ends_are_trimmed.Goals as goal

pub returns : goal.returns
returns c = trims_texts
