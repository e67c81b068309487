use Rattle.std.proofs.Common.{◌≡◌, [], length}
use Rattle.edge_case.specs.Reading.{answers_at}
use Rattle.edge_case.proofs.answers.answers_at.Given as goal

-- the answers so far with those to come are those of the whole text
abbrev pub invariant-loop-entry : goal.invariant-loop-entry
invariant-loop-entry l = answers_at l.table l.rest ≡ answers_at [] l.fn.text

abbrev pub decreases-loop-entry : goal.decreases-loop-entry
decreases-loop-entry l = length l.rest
