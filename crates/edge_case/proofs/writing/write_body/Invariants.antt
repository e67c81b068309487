use Rattle.std.proofs.Common.{take}
use Rattle.std.specs.Io.KnownBytes.{Appends}
use Rattle.edge_types.specs.Pieces.{joined}
use Rattle.edge_case.proofs.writing.write_body.Given as goal

abbrev pub invariant-loop-at : goal.invariant-loop-at
invariant-loop-at g l = Appends (g.W.Write.contents l.initial.writer) (g.W.Write.contents l.writer) (joined (take l.at l.body))
