use Rattle.std.proofs.Common.{ℕ, ◌<◌, get_or}
use Rattle.origins.specs.declared.origin.Origin.{Origin}
use Rattle.origins.specs.Bounded as spec
use Rattle.origins.proofs.bounded.gates_of.Given as goal

abbrev pub invariant-loop-origin : goal.invariant-loop-origin
invariant-loop-origin l = (k : ℕ) → k < l.origin-index → (d : Origin) → spec.HasGate l.gates.items (get_or l.origins k d).address
