use Rattle.esi_tree.specs.State.{frame_of, frames_of}
use Rattle.esi_tree.proofs.StackLemmas.{pushed-is}
use Rattle.esi_tree.proofs.open_elements.OpenElements.push.Goals as goal

pub returns : goal.returns
unfolding frames_of
returns c = rw c.in_ok-push.ensures.items (pushed-is frame_of c.args.self.now.elements.items c.args.element)
