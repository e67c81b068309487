use Rattle.std.proofs.Common.{◌≡◌, ◌+◌, drop}
use Rattle.esi_scanner.specs.Bytes.{attribute_len}
use Rattle.template_check.proofs.message.word_len.Given as goal

abbrev pub invariant-loop-i : goal.invariant-loop-i
invariant-loop-i l = attribute_len l.text ≡ l.i + attribute_len (drop l.i l.text)
