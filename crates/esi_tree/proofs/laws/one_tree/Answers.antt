use Rattle.esi_tree.proofs.Theorems.{one-tree}
use Rattle.esi_tree.proofs.laws.one_tree.Goals as goal

pub returns : goal.returns
returns c = one-tree
