-- The steps of the cache machine, by cases.
use Rattle.std.specs.Prelude.{◌≡◌, ◌≢◌, ℕ, ◌+◌, ◌-◌, ◌^◌, ◌<◌, ◌≤◌, ◌⊎◌, Bool, IsTrue, IsSome, List, [], ◌∷◌, ◌++◌, length, Some, None}
use Rattle.edge_types.specs.Answered.{Answered, failed}
use Rattle.fragment_cache.specs.declared.flights.TheConstants.{MAX_FLIGHTS}
use Rattle.fragment_cache.specs.declared.flight_state.TheConstants.{MAX_PICKS}
use Rattle.fragment_cache.specs.Times.{expiry_of, is_failing}
use Rattle.fragment_cache.specs.Machine.{Flight, Airspace, airspace, State, Flights, others, left, used, stored, fresh, bridging, flight_at, flying_at, landed_at, picks_at, NoneFlies, changed, without, departed, one_more, landed_with, picked}

-- the result of `begin`
pub data BeginAnswer : Type 0 where
  Hit : (answer : Answered) → BeginAnswer
  Join : (number : ℕ) → BeginAnswer
  Lead : (flight : Flight) (ready : Answered) → BeginAnswer
  Bypass : BeginAnswer

-- the result of `look`: an answer, none, or that an allocation failed
pub data LookAnswer : Type 0 where
  Found : (answer : Answered) → LookAnswer
  Missing : LookAnswer
  Refused : LookAnswer

-- the way in which a `land` goes
pub data Landing : Type 0 where
  NoFlight : Landing
  Bridged : Landing
  Stored : Landing
  NotStored : Landing

-- the result of `pick`
pub data PickAnswer : Type 0 where
  Here : (answer : Answered) → PickAnswer
  Flying : PickAnswer
  Unknown : PickAnswer

-- There is no room for one more flight: as many are kept as may be, or the numbers are used up.
abbrev pub IsFull : Airspace → Type 0
IsFull a = (MAX_FLIGHTS ≤ length a.flights) ⊎ (2 ^ 64 - 1 ≤ a.next)

-- There is room for one more flight: it leaves with the next number, and its leader also gets a failed answer.
abbrev pub Departs : Airspace → List ℕ → Flight → Answered → Airspace → Type 0
Departs old url flight ready new = (length old.flights < MAX_FLIGHTS) × (old.next < 2 ^ 64 - 1) × (flight ≡ record { number = old.next; url = url }) × (ready ≡ failed url)
    × (new ≡ record { flights = old.flights ++ (old.next, departed url) ∷ []; next = old.next + 1 })

-- From old, a `begin` of the URL may return this and leave new.
abbrev pub Begins : State → List ℕ → ℕ → BeginAnswer → State → Type 0
-- the entry is fresh: its answer is returned, and it becomes the newest
Begins old url now (Hit answer) new = (fresh old.entries url now ≡ Some answer) × (new ≡ record old { entries = used url old.entries })
-- a flight of the URL is under way: one more pick-up of it is noted
Begins old url now (Join number) new = (fresh old.entries url now ≡ None) × (flying_at old.flights number ≡ Some url) × (picks_at old.flights number < MAX_PICKS) × (new ≡ record old { flights = changed number one_more old.flights })
-- none is under way: a flight leaves
Begins old url now (Lead flight ready) new = (fresh old.entries url now ≡ None) × NoneFlies old.flights url × Departs (airspace old) url flight ready (airspace new) × (new ≡ record old { flights = new.flights; next = new.next })
-- nothing changes: in place of a hit or of a lead at any time, since no clause can say that an allocation failed; in place of a join only if the flight has all the pick-ups that it may have
Begins old url now Bypass new = (new ≡ old) × (fresh old.entries url now ≡ None → (number : ℕ) → flying_at old.flights number ≡ Some url → picks_at old.flights number ≡ MAX_PICKS)

-- From old, a `look` for the URL may return this and leave new. No flight is begun or joined.
abbrev pub Looks : State → List ℕ → ℕ → LookAnswer → State → Type 0
-- the entry is fresh: its answer is returned, and it becomes the newest
Looks old url now (Found answer) new = (fresh old.entries url now ≡ Some answer) × (new ≡ record old { entries = used url old.entries })
-- no entry is fresh: nothing changes
Looks old url now Missing new = (fresh old.entries url now ≡ None) × (new ≡ old)
-- nothing changes if an allocation fails, which only a fresh entry needs
Looks old url now Refused new = IsSome (fresh old.entries url now) × (new ≡ old)

-- The flight with this number lands with the answer and keeps its pick-ups; it may be gone, and is if it has none.
abbrev pub Arrives : Flights → ℕ → Answered → Flights → Type 0
Arrives old number answer new = ((0 < picks_at old number) × (new ≡ changed number (landed_with answer) old)) ⊎ (new ≡ without number old)

-- From old, a `land` of the flight with the answer may go this way, return `given`, and leave new.
abbrev pub Lands : State → Flight → Answered → ℕ → Landing → Answered → State → Type 0
-- no such flight is under way here: nothing changes
Lands old flight answer now NoFlight given new = (flying_at old.flights flight.number ≢ Some flight.url) × (given ≡ answer) × (new ≡ old)
-- the origin fails, and the URL's entry can stand in: no entry changes or moves, and its answer lands and is returned
Lands old flight answer now Bridged given new = (flying_at old.flights flight.number ≡ Some flight.url) × IsTrue (is_failing answer.reply) × (bridging old.entries flight.url now ≡ Some given)
    × (new ≡ record old { flights = new.flights }) × Arrives old.flights flight.number given new.flights
-- the answer is to be stored: it is stored, until its expiry
Lands old flight answer now Stored given new = (flying_at old.flights flight.number ≡ Some flight.url) × (given ≡ answer)
    × (expiry : ℕ) × (expiry_of answer now ≡ Some expiry) × (new ≡ record old { entries = stored old.capacity flight.url (record { answer = answer; expiry = expiry }) old.entries; flights = new.flights })
    × Arrives old.flights flight.number answer new.flights
-- it isn't, or an allocation failed, which no clause can say, so any landing may go this way: an older entry of the URL is removed
Lands old flight answer now NotStored given new = (flying_at old.flights flight.number ≡ Some flight.url) × (given ≡ answer)
    × (new ≡ record old { entries = others flight.url old.entries; flights = new.flights }) × Arrives old.flights flight.number answer new.flights

-- it goes in one of these ways
abbrev pub LandsSomehow : State → Flight → Answered → ℕ → Answered → State → Type 0
LandsSomehow old flight answer now given new =
    Lands old flight answer now NoFlight given new ⊎ (Lands old flight answer now Bridged given new ⊎ (Lands old flight answer now Stored given new ⊎ Lands old flight answer now NotStored given new))

-- From old, a `pick` of the number may return this and leave new flights.
abbrev pub PicksUp : Flights → ℕ → PickAnswer → Flights → Type 0
-- the flight has landed with this answer: one pick-up is used up
PicksUp old number (Here answer) new = (landed_at old number ≡ Some answer) × (new ≡ picked number old)
-- it is under way
PicksUp old number Flying new = IsSome (flying_at old number) × (new ≡ old)
-- there is no such flight; or an allocation failed, which no clause can say, and the pick-up is used up
PicksUp old number Unknown new = ((flight_at old number ≡ None) × (new ≡ old)) ⊎ (IsSome (landed_at old number) × (new ≡ picked number old))

-- nothing else changes
abbrev pub Picks : State → ℕ → PickAnswer → State → Type 0
Picks old number answer new = PicksUp old.flights number answer new.flights × (new ≡ record old { flights = new.flights })

-- From old, a purge of these URLs leaves new: their entries are gone. Flights stay, so what is under way is stored once it lands.
abbrev pub Purges : State → (List ℕ → Bool) → State → Type 0
Purges old is_gone new = new ≡ record old { entries = left is_gone old.entries }
