use Rattle.std.proofs.Common.{length}
use Rattle.esi_scanner.proofs.EntityLemmas.{IsDecodedTo}
use Rattle.esi_scanner.proofs.entity.decoded.Given as goal

abbrev pub invariant-loop-byte : goal.invariant-loop-byte
invariant-loop-byte l = IsDecodedTo l.raw l.value.items l.rest

abbrev pub decreases-loop-byte : goal.decreases-loop-byte
decreases-loop-byte l = length l.rest
