use Rattle.std.proofs.Common.{◌++◌, ap, ◌∙◌, arith}
use Rattle.esi_vars.proofs.ValuesLemmas.{substituted_turn, substituted_end}
use Rattle.esi_vars.proofs.part.substitute.Goals as goal

pub loop-part-preserved : goal.loop-part-preserved
loop-part-preserved c =
    let added = c.in_ok-extend_from_slice.ensures.items ∙ ap (λ bytes. c.loop-part.text.items ++ bytes) c.part_value.ensures in
    substituted_turn c.args.request.now _ _ c.args.parts.now c.loop-part.part-index c.part-item.result _ (omega arith) c.part-item.is added c.loop-part.invariant

pub returns : goal.returns
returns c = substituted_end c.args.request.now _ c.args.parts.now c.loop-part.part-index _ (omega arith) c.loop-part.invariant
