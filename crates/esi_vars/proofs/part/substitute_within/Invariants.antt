use Rattle.std.proofs.Common.{◌≡◌, ◌≤◌, ◌++◌, length, drop}
use Rattle.esi_vars.specs.Values.{substituted}
use Rattle.esi_vars.proofs.part.substitute_within.Given as goal

abbrev pub invariant-loop-part : goal.invariant-loop-part
invariant-loop-part l =
    (length l.text.items ≤ l.limit) × (l.text.items ++ substituted l.request (drop l.part-index l.parts) ≡ substituted l.request l.parts)
