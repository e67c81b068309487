use Rattle.std.proofs.Common.{◌≡◌, ◌+◌, drop}
use Rattle.std.specs.List.{prefix_len}
use Rattle.esi_vars.specs.Reference.{allows}
use Rattle.esi_vars.proofs.bytes.run_len.Given as goal

abbrev pub invariant-loop-i : goal.invariant-loop-i
invariant-loop-i l = prefix_len (allows l.class) l.text ≡ l.i + prefix_len (allows l.class) (drop l.i l.text)
