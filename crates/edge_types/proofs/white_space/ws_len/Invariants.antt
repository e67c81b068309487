use Rattle.std.proofs.Common.{◌≡◌, ◌+◌, drop}
use Rattle.edge_types.specs.WhiteSpace.{ws_len}
use Rattle.edge_types.proofs.white_space.ws_len.Given as goal

abbrev pub invariant-loop-i : goal.invariant-loop-i
invariant-loop-i l = ws_len l.text ≡ l.i + ws_len (drop l.i l.text)
