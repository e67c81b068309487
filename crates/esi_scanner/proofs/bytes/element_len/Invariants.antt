use Rattle.std.proofs.Common.{◌≡◌, ◌+◌, drop}
use Rattle.esi_scanner.specs.Bytes.{element_len}
use Rattle.esi_scanner.proofs.bytes.element_len.Given as goal

abbrev pub invariant-loop-i : goal.invariant-loop-i
invariant-loop-i l = element_len l.text ≡ l.i + element_len (drop l.i l.text)
