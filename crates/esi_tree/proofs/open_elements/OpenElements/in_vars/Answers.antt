use Rattle.std.proofs.Common.{sym, ◌∙◌, ap, map}
use Rattle.std.specs.List.{list_any}
use Rattle.esi_tree.specs.Reading.{is_vars}
use Rattle.esi_tree.specs.State.{frame_of, frames_of}
use Rattle.esi_tree.proofs.AnyLemmas.{any_map, any-reverse}
use Rattle.esi_tree.proofs.open_elements.OpenElements.in_vars.Goals as goal

pub returns : goal.returns
unfolding frames_of
returns c =
    c.has_vars.ensures
    ∙ ap (list_any (λ element. is_vars (frame_of element))) c.as_slice.ensures.value
    ∙ sym (any-reverse is_vars (map frame_of c.args.self.now.elements.items) ∙ any_map is_vars frame_of c.args.self.now.elements.items)
