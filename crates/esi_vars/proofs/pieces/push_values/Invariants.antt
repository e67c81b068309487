use Rattle.std.proofs.Common.{◌≡◌, [], drop}
use Rattle.edge_types.specs.Pieces.{with_pieces}
use Rattle.esi_vars.specs.Values.{value_pieces}
use Rattle.esi_vars.proofs.pieces.push_values.Given as goal

abbrev pub invariant-loop-part : goal.invariant-loop-part
invariant-loop-part l =
    with_pieces l.body (value_pieces l.request l.run.items (drop l.part-index l.parts)) ≡ with_pieces l.initial.body (value_pieces l.request [] l.parts)
