use Rattle.std.proofs.Common.{◌∙◌, ap, arith}
use Rattle.edge_types.specs.Pieces.{with_piece}
use Rattle.esi_vars.proofs.ValuesLemmas.{pieces_turn, pieces_end}
use Rattle.esi_vars.proofs.pieces.push_values.Goals as goal

pub loop-part-preserved : goal.loop-part-preserved
loop-part-preserved c =
    pieces_turn c.args.request.now c.loop-part.body c.loop-part.run.items c.args.parts.now c.loop-part.part-index _ _ _ c.part-item.result (omega arith) c.part-item.is c.in_ok-push_value.ensures c.loop-part.invariant

pub returns-clause-pieces : goal.returns-clause-pieces
returns-clause-pieces c =
    c.in_ok-push.ensures.ok
    ∙ ap (with_piece c.loop-part.body) c.in_ok-of.ensures
    ∙ pieces_end c.args.request.now c.loop-part.body c.loop-part.run.items c.args.parts.now c.loop-part.part-index _ (omega arith) c.loop-part.invariant
