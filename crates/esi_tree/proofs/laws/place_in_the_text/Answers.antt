use Rattle.esi_tree.proofs.Theorems.{place-from_text, text-from_place}
use Rattle.esi_tree.proofs.laws.place_in_the_text.Goals as goal

pub returns : goal.returns
returns c = λ text at. (place-from_text text at, text-from_place text at)
