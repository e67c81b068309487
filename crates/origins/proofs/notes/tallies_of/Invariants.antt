use Rattle.std.proofs.Common.{◌≡◌, take}
use Rattle.origins.specs.Authorities.{counted, told}
use Rattle.origins.proofs.notes.tallies_of.Given as goal

abbrev pub invariant-loop-origin : goal.invariant-loop-origin
invariant-loop-origin l = told l.made.items ≡ counted (take l.origin-index l.origins)
