use Rattle.std.proofs.Common.{◌≡◌, take}
use Rattle.origins.specs.Authorities.{counted}
use Rattle.origins.specs.Origins.{authorities_of}
use Rattle.origins.proofs.notes.counts_of.Given as goal

abbrev pub invariant-loop-origin : goal.invariant-loop-origin
invariant-loop-origin l = counted l.made.items ≡ authorities_of (take l.origin-index l.origins)
