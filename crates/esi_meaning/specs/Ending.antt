-- How a run of the code ends, next to the run of the meaning that it implements.
use Rattle.std.specs.Prelude.{◌≡◌, ℕ, ◌+◌, ◌<◌, ◌≤◌, List, ◌++◌, length, Some, None}
use Rattle.edge_types.specs.Pieces.{joined}
use Rattle.esi_meaning.specs.declared.limits.TheConstants.{MAX_LEGS}
use Rattle.esi_meaning.specs.declared.draft.Ending.{Ending}
use Rattle.esi_meaning.specs.declared.draft.Ending.TheVariants.{Complete, Failed, TooManyLegs}
use Rattle.esi_meaning.specs.declared.draft.Draft.{Draft}
use Rattle.esi_meaning.specs.Run.{Run}

-- the count of legs grows by those of the run, within the limit
pub record Counts (run : Run) (old new : ℕ) : Type 0 where
  pub sum : new ≡ old + length run.legs
  pub few : new ≤ MAX_LEGS

-- pieces with this text come after those that were there
pub record Adds (text : List ℕ) (old new : List (List ℕ)) : Type 0 where
  pub pieces : List (List ℕ)
  pub appended : new ≡ old ++ pieces
  pub spell : joined pieces ≡ text

-- the run's text comes after what was there
pub record GivesText (run : Run) (old new : List (List ℕ)) : Type 0 where
  pub text : List ℕ
  pub gave : run.text ≡ Some text
  pub added : Adds text old new

abbrev pub Ends : Run → Draft → Draft → Ending → Type 0
Ends run old new Complete = GivesText run old.body new.body × Counts run old.legs new.legs
Ends run old new Failed = (run.text ≡ None) × (new.body ≡ old.body) × Counts run old.legs new.legs
Ends run old new TooManyLegs = MAX_LEGS < old.legs + length run.legs
