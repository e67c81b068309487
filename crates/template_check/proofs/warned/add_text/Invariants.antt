use Rattle.std.proofs.Common.{◌≡◌, ◌+◌, ◌++◌, drop}
use Rattle.template_check.specs.Warned.{text_warnings}
use Rattle.template_check.proofs.warned.add_text.Given as goal

abbrev pub invariant-loop-i : goal.invariant-loop-i
invariant-loop-i l = l.found.items ++ text_warnings l.replaced (l.place + l.i) (drop l.i l.text) ≡ l.initial.found.items ++ text_warnings l.replaced l.place l.text
