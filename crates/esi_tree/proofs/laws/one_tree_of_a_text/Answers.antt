use Rattle.esi_tree.proofs.Theorems.{one-tree_of_text}
use Rattle.esi_tree.proofs.laws.one_tree_of_a_text.Goals as goal

pub returns : goal.returns
returns c = one-tree_of_text
