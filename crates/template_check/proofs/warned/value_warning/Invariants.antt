use Rattle.std.proofs.Common.{◌≡◌, drop}
use Rattle.template_check.specs.Warned.{value_warning}
use Rattle.template_check.proofs.warned.value_warning.Given as goal

abbrev pub invariant-loop-i : goal.invariant-loop-i
invariant-loop-i l = value_warning (drop l.i l.value) ≡ value_warning l.value
