use Rattle.std.proofs.Common.{◌≡◌, ◌≤◌, ◌++◌, ◌-◌, length, drop}
use Rattle.esi_vars.specs.Parts.{parts_of}
use Rattle.esi_vars.proofs.part.parts.Given as goal

abbrev pub invariant-loop-found : goal.invariant-loop-found
invariant-loop-found l = (l.at ≤ length l.text) × (l.parts.items ++ parts_of (drop l.at l.text) ≡ parts_of l.text)

abbrev pub decreases-loop-found : goal.decreases-loop-found
decreases-loop-found l = length l.text - l.at
