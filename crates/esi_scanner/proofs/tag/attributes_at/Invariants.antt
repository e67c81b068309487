use Rattle.std.proofs.Common.{◌≤◌, length}
use Rattle.esi_scanner.proofs.AttributeLemmas.{IsReadTo}
use Rattle.esi_scanner.proofs.tag.attributes_at.Given as goal

abbrev pub invariant-loop-attributes : goal.invariant-loop-attributes
invariant-loop-attributes l = (length l.rest ≤ length l.text) × IsReadTo l.text l.attributes.items l.rest

abbrev pub decreases-loop-attributes : goal.decreases-loop-attributes
decreases-loop-attributes l = length l.rest
