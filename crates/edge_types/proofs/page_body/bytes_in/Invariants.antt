use Rattle.std.proofs.Common.{◌≡◌, length, take}
use Rattle.edge_types.specs.Pieces.{joined}
use Rattle.edge_types.proofs.page_body.bytes_in.Given as goal

abbrev pub invariant-loop-piece : goal.invariant-loop-piece
invariant-loop-piece l = l.total ≡ length (joined (take l.piece-index l.pieces))
