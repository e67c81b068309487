use Rattle.std.proofs.Common.{◌≤◌, length}
use Rattle.esi_scanner.proofs.ProblemLemmas.{IsWalkedTo}
use Rattle.esi_scanner.proofs.problem.walked.Given as goal

abbrev pub invariant-loop-name : goal.invariant-loop-name
invariant-loop-name l = (length l.rest ≤ length l.text) × IsWalkedTo l.text l.seen.keys l.rest

abbrev pub decreases-loop-name : goal.decreases-loop-name
decreases-loop-name l = length l.rest
