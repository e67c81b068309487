-- A walk over a plan, for what it may ask for: each test is decided, and both ways of each try are entered.
use Rattle.std.specs.Prelude.{ℕ, List, [], ◌∷◌, Option, Some, None, if◌then◌else◌}
use Rattle.edge_types.specs.declared.request.Request.{Request}
use Rattle.edge_types.specs.Answered.{Answered}
use Rattle.edge_types.specs.Asked.{resolve}
use Rattle.esi_expr.specs.Truth.{holds}
use Rattle.esi_vars.specs.declared.part.Part.{Part}
use Rattle.esi_vars.specs.Values.{substituted}
use Rattle.plan_compiler.specs.declared.inline.Inline.{Inline}
use Rattle.plan_compiler.specs.Plan.{Step, Text, Values, Test, Jump, Try, EndTry, Leg}
use Rattle.plan_compiler.specs.Urls.{entry_of}
use Rattle.answer_board.specs.Board.{number_of}
use Rattle.plan_runner.specs.Ahead.{Opening, with_url}

-- how many steps the walk skips after this one
abbrev pub passed_by : Request → Step → ℕ
passed_by r (Text text) = 0
passed_by r (Values parts) = 0
passed_by r (Test test skip) = if holds r test then 0 else skip
passed_by r (Jump skip) = skip
passed_by r (Try skip) = 0
passed_by r (EndTry skip) = 0
passed_by r (Leg source) = 0

-- the source of a step
abbrev pub sources_at : Step → List (List Part)
sources_at (Text text) = []
sources_at (Values parts) = []
sources_at (Test test skip) = []
sources_at (Jump skip) = []
sources_at (Try skip) = []
sources_at (EndTry skip) = []
sources_at (Leg source) = source ∷ []

abbrev pub unless_entry : List ℕ → Option Inline → Option (List ℕ)
unless_entry w (Some entry) = None
unless_entry w None = Some w

abbrev pub asked_in : Answered → Option (List ℕ) → Option (List ℕ)
asked_in a None = None
asked_in a (Some w) = unless_entry w (entry_of a w)

-- the URL that a source asks for in the template of this answer: none if it doesn't denote one, or an inline is named
abbrev pub asked_by : Request → Answered → List Part → Option (List ℕ)
asked_by r a source = asked_in a (resolve a.url (substituted r source))

abbrev pub with_asked : ℕ → Option (List ℕ) → Opening → Opening
with_asked depth None o = o
with_asked depth (Some w) o = with_url (number_of o.board.slots w) depth w o
