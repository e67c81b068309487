use Rattle.std.proofs.Common.{arith}
use Rattle.std.proofs.lemmas.List.Elements.{All-take}
use Rattle.edge_types.specs.Pieces.{IsPiece}
use Rattle.edge_types.proofs.PieceLemmas.{joined-parts, joined-rest_le}
use Rattle.edge_types.proofs.page_body.PageBody.cut.Goals as goal

pub bytes_in-dropped-requires : goal.bytes_in-dropped-requires
bytes_in-dropped-requires c =
    omega (arith, joined-rest_le c.args.mark c.self.inside.len c.self.inside.pieces.items c.deref.result.now c.self.invariant.0 c.deref.ensures.value, c.self.ranges)

pub overflow_sub-self : goal.overflow_sub-self
overflow_sub-self c =
    omega (arith, joined-parts c.args.mark c.self.inside.len c.bytes_in-dropped.result c.self.inside.pieces.items c.deref.result.now c.truncate.new.self.items c.self.invariant.0 c.deref.ensures.value c.bytes_in-dropped.ensures c.truncate.ensures.items)

pub invariant_of-self : goal.invariant_of-self
invariant_of-self c = (
  omega (arith, joined-parts c.args.mark c.self.inside.len c.bytes_in-dropped.result c.self.inside.pieces.items c.deref.result.now c.truncate.new.self.items c.self.invariant.0 c.deref.ensures.value c.bytes_in-dropped.ensures c.truncate.ensures.items),
  rw c.truncate.ensures.items (All-take IsPiece c.args.mark c.self.inside.pieces.items c.self.invariant.1),
)
