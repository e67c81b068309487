use Rattle.std.proofs.Common.{◌≡◌, ◌++◌, drop}
use Rattle.template_check.specs.Warned.{each_warning}
use Rattle.template_check.proofs.warned.add_each.Given as goal

abbrev pub invariant-loop-warning : goal.invariant-loop-warning
invariant-loop-warning l = l.found.items ++ each_warning l.place l.tag (drop l.warning-index l.warnings) ≡ l.initial.found.items ++ each_warning l.place l.tag l.warnings
