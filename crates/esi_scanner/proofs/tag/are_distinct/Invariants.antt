use Rattle.std.proofs.Common.{length}
use Rattle.esi_scanner.proofs.DistinctLemmas.{IsSeen}
use Rattle.esi_scanner.proofs.tag.are_distinct.Given as goal

abbrev pub invariant-loop-attribute : goal.invariant-loop-attribute
invariant-loop-attribute l = IsSeen l.attributes l.rest l.seen.keys

abbrev pub decreases-loop-attribute : goal.decreases-loop-attribute
decreases-loop-attribute l = length l.rest
