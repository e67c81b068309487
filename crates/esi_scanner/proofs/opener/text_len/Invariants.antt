use Rattle.std.proofs.Common.{◌≡◌, ◌≤◌, ◌+◌, ◌-◌, length, drop}
use Rattle.esi_scanner.specs.Bytes.{bytes_before}
use Rattle.esi_scanner.specs.Scan.{begins_opener}
use Rattle.esi_scanner.proofs.opener.text_len.Given as goal

abbrev pub invariant-loop-len : goal.invariant-loop-len
invariant-loop-len l =
    record { within : l.len ≤ length l.text; passed : bytes_before (begins_opener l.block) l.text ≡ l.len + bytes_before (begins_opener l.block) (drop l.len l.text) }

abbrev pub decreases-loop-len : goal.decreases-loop-len
decreases-loop-len l = length l.text - l.len
