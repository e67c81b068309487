-- What a page promises: whatever `advance` reports is true, whatever the missing answers are, and in whatever order
-- slots were claimed and answers posted, fetched ahead or not.
use Rattle.std.specs.Prelude.{◌≡◌, List, Contains, IsSome, None}
use Rattle.std.specs.Arc.{arc_value}
use Rattle.edge_types.specs.Answered.{Answered}
use Rattle.edge_types.specs.Outcome.{shown}
use Rattle.edge_types.specs.Table.{answer_of, Agrees}
use Rattle.esi_meaning.specs.Meaning.{outcome, asked}
use Rattle.answer_board.specs.Board.{number_of, log_of}
use Rattle.plan_runner.specs.declared.page.State.{State}
use Rattle.plan_runner.specs.declared.page.State.TheVariants.{Waiting, Done}
use Rattle.plan_runner.specs.Page.{Page}

-- A page waits for a URL whose answer isn't in, that has a slot, and that the meaning asks over this table of all answers.
-- A page that is done has the outcome of the meaning over this table: status, content type and bytes, or the fault.
abbrev pub IsTrueOver : List Answered → Page → State → Type 0
IsTrueOver table page (Waiting url) = (answer_of (log_of page.board) url ≡ None) × IsSome (number_of page.board.slots url) × Contains (asked page.request table page.levels page.url) url
IsTrueOver table page (Done result) = outcome page.request table page.levels page.url ≡ shown (arc_value result)

-- This is true over every table that agrees with the answers that are in.
abbrev pub TellsTheTruth : Page → State → Type 0
TellsTheTruth page state = (table : List Answered) → Agrees (log_of page.board) table → IsTrueOver table page state
