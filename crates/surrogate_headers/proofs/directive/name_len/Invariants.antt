use Rattle.std.proofs.Common.{◌≡◌, ◌+◌, drop}
use Rattle.std.specs.List.{position_or_len}
use Rattle.surrogate_headers.specs.Directive.{ends_name}
use Rattle.surrogate_headers.proofs.directive.name_len.Given as goal

abbrev pub invariant-loop-i : goal.invariant-loop-i
invariant-loop-i l = l.i + position_or_len ends_name (drop l.i l.part) ≡ position_or_len ends_name l.part
