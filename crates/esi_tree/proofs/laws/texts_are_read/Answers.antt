use Rattle.esi_tree.proofs.Theorems.{text-from_read, read-from_text}
use Rattle.esi_tree.proofs.laws.texts_are_read.Goals as goal

pub returns : goal.returns
returns c = λ text t. (text-from_read text t, read-from_text text t)
