use Rattle.std.proofs.Common.{◌≡◌, ◌+◌, drop}
use Rattle.std.specs.List.{position_or_len}
use Rattle.surrogate_headers.specs.Parameter.{ends_value}
use Rattle.surrogate_headers.proofs.parameter.bare_len.Given as goal

abbrev pub invariant-loop-i : goal.invariant-loop-i
invariant-loop-i l = l.i + position_or_len ends_value (drop l.i l.text) ≡ position_or_len ends_value l.text
