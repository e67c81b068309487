use Rattle.std.proofs.Common.{◌≡◌, ◌+◌, drop}
use Rattle.template_check.specs.Reasons.{count_before}
use Rattle.template_check.proofs.reasons.count_before.Given as goal

abbrev pub invariant-loop-i : goal.invariant-loop-i
invariant-loop-i l = count_before l.tokens l.place ≡ l.i + count_before (drop l.i l.tokens) l.place
