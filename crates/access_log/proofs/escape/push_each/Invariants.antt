use Rattle.std.proofs.Common.{◌≡◌, ◌++◌, take}
use Rattle.access_log.specs.Escapes.{escaped}
use Rattle.access_log.proofs.escape.push_each.Given as goal

abbrev pub invariant-loop-byte : goal.invariant-loop-byte
invariant-loop-byte l = l.line ≡ l.initial.line ++ escaped l.prefix (take l.byte-index l.text)
