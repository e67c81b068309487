use Rattle.std.proofs.Common.{◌≡◌, List, [], Some, length}
use Rattle.edge_types.specs.Answered.{Answered}
use Rattle.edge_case.specs.Reading.{answers_at}
use Rattle.edge_case.proofs.TemplateLemmas.{Follows}
use Rattle.edge_case.proofs.templates.templates_at.Given as goal

-- the templates so far are those of the answers so far, whatever table the whole text writes
abbrev pub invariant-loop-entry : goal.invariant-loop-entry
invariant-loop-entry l = (table : List Answered) → answers_at [] l.fn.text ≡ Some table → Follows l.found.items l.rest table

abbrev pub decreases-loop-entry : goal.decreases-loop-entry
decreases-loop-entry l = length l.rest
