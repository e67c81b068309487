use Rattle.std.proofs.Common.{◌++◌, length, length-append, ap, ◌∙◌, arith}
use Rattle.esi_vars.proofs.ValuesLemmas.{substituted_turn, substituted_end, within_limit, past_limit}
use Rattle.esi_vars.proofs.part.substitute_within.Goals as goal

pub returns-then-value-limit : goal.returns-then-value-limit
returns-then-value-limit c =
    past_limit c.args.request.now c.args.limit _ c.args.parts.now _ c.part-item.result _ (omega arith) c.part-item.is (omega (arith, ap length c.part_value-value.ensures)) c.loop-part.invariant.1

pub loop-part-preserved : goal.loop-part-preserved
loop-part-preserved c =
    let added = c.in_ok-extend_from_slice.ensures.items ∙ ap (λ bytes. c.loop-part.text.items ++ bytes) c.part_value-value.ensures in (
      omega (arith, ap length c.in_ok-extend_from_slice.ensures.items, length-append c.loop-part.text.items c.part_value-value.result.now),
      substituted_turn c.args.request.now _ _ c.args.parts.now c.loop-part.part-index c.part-item.result _ (omega arith) c.part-item.is added c.loop-part.invariant.1,
    )

pub returns : goal.returns
returns c =
    within_limit c.args.limit _ _ (substituted_end c.args.request.now _ c.args.parts.now c.loop-part.part-index _ (omega arith) c.loop-part.invariant.1) c.loop-part.invariant.0
