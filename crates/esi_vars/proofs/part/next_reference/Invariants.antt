use Rattle.std.proofs.Common.{◌≡◌, ◌≤◌, ◌-◌, length, take, drop}
use Rattle.esi_vars.specs.Parts.{next_reference, with_before}
use Rattle.esi_vars.proofs.part.next_reference.Given as goal

abbrev pub invariant-search : goal.invariant-search
invariant-search l = (l.at ≤ length l.text) × (next_reference l.text ≡ with_before (take l.at l.text) (next_reference (drop l.at l.text)))

abbrev pub decreases-search : goal.decreases-search
decreases-search l = length l.text - l.at
