-- The templates among the answers of a case.
use Rattle.std.specs.Prelude.{Bool, List, [], ◌∷◌, Option, Some, None}
use Rattle.std.specs.List.{filter}
use Rattle.edge_types.specs.Answered.{Answered, processed}

-- the answer's body is a template that the edge processes
abbrev pub is_template : Answered → Bool
is_template answer = processed answer.reply

-- the templates among these answers, in order
abbrev pub templates_in : List Answered → List Answered
templates_in answers = filter is_template answers

-- the template among at most one answer, in a list
abbrev pub template_of : Option Answered → List Answered
template_of None = []
template_of (Some answer) = templates_in (answer ∷ [])
