use Rattle.std.proofs.Common.{arith}
use Rattle.esi_tree.specs.State.{frame_of, frames_of}
use Rattle.esi_tree.proofs.StackLemmas.{popped-none, popped-some}
use Rattle.esi_tree.proofs.open_elements.OpenElements.pop.Goals as goal

pub returns-clause-none : goal.returns-clause-none
unfolding frames_of
returns-clause-none c = popped-none frame_of c.pop.result c.args.self.now.elements.items c.pop.new.self.items c.pop.ensures.items (λ some. c.pop.ensures.variant.1 (omega arith))

pub returns-clause-some : goal.returns-clause-some
unfolding frames_of
returns-clause-some c = popped-some frame_of c.pop.result c.args.self.now.elements.items c.pop.new.self.items c.pop.ensures.items
