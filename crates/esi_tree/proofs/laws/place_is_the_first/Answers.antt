use Rattle.esi_tree.proofs.Theorems.{place-from_read, read-from_place}
use Rattle.esi_tree.proofs.laws.place_is_the_first.Goals as goal

pub returns : goal.returns
returns c = λ text tokens at. (place-from_read text tokens at, read-from_place text tokens at)
