-- Whole runs of the cache machine.
use Rattle.std.specs.Prelude.{◌≡◌, ℕ, Bool, List, [], ◌∷◌}
use Rattle.edge_types.specs.Answered.{Answered}
use Rattle.fragment_cache.specs.Machine.{Flight, State, empty}
use Rattle.fragment_cache.specs.Steps.{BeginAnswer, LookAnswer, PickAnswer, Begins, Looks, LandsSomehow, Picks, Purges}

-- one call of a shard, with the second at which it was made, and its result
pub data Event : Type 0 where
  Began : (url : List ℕ) (now : ℕ) (answer : BeginAnswer) → Event
  Looked : (url : List ℕ) (now : ℕ) (answer : LookAnswer) → Event
  Landed : (flight : Flight) (answer : Answered) (now : ℕ) (given : Answered) → Event
  PickedUp : (number : ℕ) (answer : PickAnswer) → Event
  Purged : (is_gone : List ℕ → Bool) → Event

-- the call may lead from old to new in this way; an answer lands only for the URL that it names
abbrev pub Step : State → Event → State → Type 0
Step old (Began url now answer) new = Begins old url now answer new
Step old (Looked url now answer) new = Looks old url now answer new
Step old (Landed flight answer now given) new = (answer.url ≡ flight.url) × LandsSomehow old flight answer now given new
Step old (PickedUp number answer) new = Picks old number answer new
Step old (Purged is_gone) new = Purges old is_gone new

-- a new shard of this capacity may be in this state after these calls, of which the latest comes first
abbrev pub Run : ℕ → List Event → State → Type 0
Run capacity [] s = s ≡ empty capacity
Run capacity (event ∷ earlier) s = (before : State) × Run capacity earlier before × Step before event s
