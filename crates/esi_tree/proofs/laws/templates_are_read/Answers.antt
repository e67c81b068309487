use Rattle.esi_tree.proofs.Theorems.{template-from_read, read-from_template}
use Rattle.esi_tree.proofs.laws.templates_are_read.Goals as goal

pub returns : goal.returns
returns c = λ text tokens t. (template-from_read text tokens t, read-from_template text tokens t)
