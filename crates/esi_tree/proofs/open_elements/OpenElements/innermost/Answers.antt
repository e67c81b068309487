use Rattle.std.proofs.Common.{◌∙◌, ap, option_map}
use Rattle.esi_tree.specs.State.{frame_of, frames_of}
use Rattle.esi_tree.proofs.StackLemmas.{top-is}
use Rattle.esi_tree.proofs.open_elements.OpenElements.innermost.Goals as goal

pub returns : goal.returns
unfolding frames_of
returns c = ap (option_map frame_of) c.last.ensures.value ∙ rw c.deref.ensures.value (top-is frame_of c.args.self.now.elements.items)
