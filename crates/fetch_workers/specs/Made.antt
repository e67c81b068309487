-- What an assembled page is.
use Rattle.std.specs.Prelude.{ℕ, List, map, Option, option_map}
use Rattle.std.specs.Arc.{arc_value}
use Rattle.edge_types.specs.declared.request.Request.{Request}
use Rattle.edge_types.specs.Answered.{Answered}
use Rattle.edge_types.specs.Outcome.{Shown, shown}
use Rattle.fetch_workers.specs.Rests.{IsAssembled, IsFailedLeg}
use Rattle.fetch_workers.specs.Ways.{AreWaysOf}
use Rattle.fetch_workers.specs.declared.assembler.Assembled.{Assembled}

abbrev pub log_in : Assembled → List Answered
log_in made = map arc_value made.log.items

abbrev pub outcome_in : Assembled → Shown
outcome_in made = shown (arc_value made.outcome)

abbrev pub failed_leg_in : Assembled → Option Answered
failed_leg_in made = option_map arc_value made.failed_leg

-- the page at this URL, for this request and with these levels, as it was assembled of a source's answers
pub record IsAssembledBy (gives : List ℕ → Answered → Type 0) (request : Request) (levels : ℕ) (url : List ℕ) (made : Assembled) : Type 0 where
  -- its log and its outcome
  pub page : IsAssembled gives request levels url (log_in made) (outcome_in made)
  -- by which ways its answers came
  pub ways : AreWaysOf (log_in made) made.ways
  pub failed_leg : IsFailedLeg request levels url (log_in made) (outcome_in made) (failed_leg_in made)
