use Rattle.std.proofs.Common.{◌+◌, arith}
use Rattle.edge_types.proofs.PieceLemmas.{joined-step, joined-take_le}
use Rattle.edge_types.proofs.page_body.bytes_in.Goals as goal

pub overflow_add-total : goal.overflow_add-total
overflow_add-total c =
    omega (arith, joined-step c.args.pieces.now c.loop-piece.piece-index c.loop-piece.total c.len-total.result c.piece-item.result c.loop-piece-test.true c.loop-piece.invariant c.piece-item.is c.len-total.ensures, joined-take_le (c.loop-piece.piece-index + 1) c.args.pieces.now)

pub loop-piece-preserved : goal.loop-piece-preserved
loop-piece-preserved c =
    joined-step c.args.pieces.now c.loop-piece.piece-index c.loop-piece.total c.len-total.result c.piece-item.result c.loop-piece-test.true c.loop-piece.invariant c.piece-item.is c.len-total.ensures
