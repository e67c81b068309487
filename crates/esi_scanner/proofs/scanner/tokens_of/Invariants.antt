use Rattle.std.proofs.Common.{◌≡◌, ◌+◌, length}
use Rattle.esi_scanner.proofs.ScanLemmas.{IsCutTo}
use Rattle.esi_scanner.proofs.scanner.tokens_of.Given as goal

abbrev pub invariant-loop-rest : goal.invariant-loop-rest
invariant-loop-rest l = record { within : l.at + length l.rest ≡ length l.text; so_far : IsCutTo l.text l.tokens.items l.block l.at l.rest }

abbrev pub decreases-loop-rest : goal.decreases-loop-rest
decreases-loop-rest l = length l.rest
