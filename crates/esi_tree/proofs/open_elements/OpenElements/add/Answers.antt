use Rattle.std.proofs.Common.{◌≡◌, [], ◌∷◌, refl, sym, ◌∙◌, ap, arith}
use Rattle.esi_tree.specs.State.{frame_of, frames_of, shown_child, grown_innermost}
use Rattle.esi_tree.proofs.StackLemmas.{topped, none-left}
use Rattle.esi_tree.proofs.open_elements.OpenElements.add.Goals as goal

pub returns-in_ok-add : goal.returns-in_ok-add
unfolding frames_of
returns-in_ok-add c =
    let elements = c.args.self.now.elements in
    let stack = topped frame_of elements.items elements.len c.in-Some.innermost.now c.add.new.self elements.ok.0 (c.in-Some.ensures.variant.0 refl) c.in-Some.ensures.value in
    stack.new_is ∙ ap (λ frame. frame ∷ stack.rest) c.in_ok-add.ensures ∙ sym (ap (grown_innermost (shown_child c.args.child)) stack.old_is)

pub returns-in_default : goal.returns-in_default
unfolding frames_of
returns-in_default c =
    let none : c.args.self.now.elements.items ≡ [] = none-left c.args.self.now.elements.items (λ some. c.in_default.ensures.variant.1 (omega arith)) in
    rw none refl
