use Rattle.esi_vars.proofs.Theorems.{reads_references}
use Rattle.esi_vars.proofs.laws.references_are_read.Goals as goal

pub returns : goal.returns
returns c = reads_references
