use Rattle.std.proofs.Common.{arith}
use Rattle.std.proofs.lemmas.List.{length-reverse, length-map}
use Rattle.esi_tree.specs.State.{frames_of}
use Rattle.esi_tree.proofs.open_elements.OpenElements.len.Goals as goal

pub returns : goal.returns
unfolding frames_of
returns c = simp (length-reverse, length-map) (grind arith)
