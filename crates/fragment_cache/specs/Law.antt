-- What is true of every run of the cache machine, by the calls and their answers alone. A history has the latest call first.
use Rattle.std.specs.Prelude.{◌≡◌, ◌≢◌, ℕ, ◌+◌, ◌<◌, ◌⊎◌, Bool, false, ◌&&◌, not, IsTrue, IsSome, ⊤, bytes_eq, List, [], ◌∷◌, Option, Some, None, if◌then◌else◌}
use Rattle.std.specs.Option.{option_map_or}
use Rattle.edge_types.specs.Answered.{Answered, failed}
use Rattle.fragment_cache.specs.Times.{second_after, expiry_of, extension_of, is_failing}
use Rattle.fragment_cache.specs.Machine.{Flight, State, same_number}
use Rattle.fragment_cache.specs.Steps.{Hit, Join, Lead, Bypass, Found, Missing, Refused, Here, Flying, Unknown}
use Rattle.fragment_cache.specs.Runs.{Event, Began, Looked, Landed, PickedUp, Purged, Run}

abbrev pub History : Type 0
History = List Event

-- the URL is this one
abbrev pub is_of : List ℕ → Option (List ℕ) → Bool
is_of url found = option_map_or (bytes_eq url) found false

-- the URL for which the flight with a number flies: it was led, and no flight with its number and URL has landed since
abbrev pub flying_in : History → ℕ → Option (List ℕ)
flying_in [] number = None
flying_in (Began url now (Lead flight ready) ∷ earlier) number = if same_number flight.number number then Some flight.url else flying_in earlier number
flying_in (Began url now (Hit answer) ∷ earlier) number = flying_in earlier number
flying_in (Began url now (Join joined) ∷ earlier) number = flying_in earlier number
flying_in (Began url now Bypass ∷ earlier) number = flying_in earlier number
flying_in (Looked url now answer ∷ earlier) number = flying_in earlier number
flying_in (Landed flight answer now given ∷ earlier) number = if is_of flight.url (flying_in earlier flight.number) && same_number flight.number number then None else flying_in earlier number
flying_in (PickedUp picked answer ∷ earlier) number = flying_in earlier number
flying_in (Purged is_gone ∷ earlier) number = flying_in earlier number

-- this very flight is under way, so it lands when it is handed in
abbrev pub flies_in : History → Flight → Bool
flies_in earlier flight = is_of flight.url (flying_in earlier flight.number)

-- a landing is bridged: a failing answer is handed in, and another that isn't failing comes back
abbrev pub is_bridged : Answered → Answered → Bool
is_bridged answer given = is_failing answer.reply && not (is_failing given.reply)

-- the answer of the latest landing for the URL that wasn't bridged, and the second of that landing; none if the URL was purged since
abbrev pub latest : List ℕ → History → Option (Answered × ℕ)
latest url [] = None
latest url (Landed flight answer now given ∷ earlier) = if flies_in earlier flight && (not (is_bridged answer given) && bytes_eq flight.url url) then Some (answer, now) else latest url earlier
latest url (Began u now answer ∷ earlier) = latest url earlier
latest url (Looked u now answer ∷ earlier) = latest url earlier
latest url (PickedUp number answer ∷ earlier) = latest url earlier
latest url (Purged is_gone ∷ earlier) = if is_gone url then None else latest url earlier

-- the answer with which the flight with a number landed
abbrev pub landed_in : History → ℕ → Option Answered
landed_in [] number = None
landed_in (Landed flight answer now given ∷ earlier) number = if flies_in earlier flight && same_number flight.number number then Some given else landed_in earlier number
landed_in (Began url now answer ∷ earlier) number = landed_in earlier number
landed_in (Looked url now answer ∷ earlier) number = landed_in earlier number
landed_in (PickedUp picked answer ∷ earlier) number = landed_in earlier number
landed_in (Purged is_gone ∷ earlier) number = landed_in earlier number

-- how many flights were led
abbrev pub leads : History → ℕ
leads [] = 0
leads (Began url now (Lead flight ready) ∷ earlier) = leads earlier + 1
leads (Began url now (Hit answer) ∷ earlier) = leads earlier
leads (Began url now (Join joined) ∷ earlier) = leads earlier
leads (Began url now Bypass ∷ earlier) = leads earlier
leads (Looked url now answer ∷ earlier) = leads earlier
leads (Landed flight answer now given ∷ earlier) = leads earlier
leads (PickedUp picked answer ∷ earlier) = leads earlier
leads (Purged is_gone ∷ earlier) = leads earlier

-- how many times the flight with a number was joined
abbrev pub joins : History → ℕ → ℕ
joins [] number = 0
joins (Began url now (Join joined) ∷ earlier) number = if same_number joined number then joins earlier number + 1 else joins earlier number
joins (Began url now (Hit answer) ∷ earlier) number = joins earlier number
joins (Began url now (Lead flight ready) ∷ earlier) number = joins earlier number
joins (Began url now Bypass ∷ earlier) number = joins earlier number
joins (Looked url now answer ∷ earlier) number = joins earlier number
joins (Landed flight answer now given ∷ earlier) number = joins earlier number
joins (PickedUp picked answer ∷ earlier) number = joins earlier number
joins (Purged is_gone ∷ earlier) number = joins earlier number

-- how many times its answer was picked up
abbrev pub heres : History → ℕ → ℕ
heres [] number = 0
heres (PickedUp picked (Here answer) ∷ earlier) number = if same_number picked number then heres earlier number + 1 else heres earlier number
heres (PickedUp picked Flying ∷ earlier) number = heres earlier number
heres (PickedUp picked Unknown ∷ earlier) number = heres earlier number
heres (Began url now answer ∷ earlier) number = heres earlier number
heres (Looked url now answer ∷ earlier) number = heres earlier number
heres (Landed flight answer now given ∷ earlier) number = heres earlier number
heres (Purged is_gone ∷ earlier) number = heres earlier number

-- the answer is that of the latest landing for the URL that wasn't bridged; it was to be stored, and this is its expiry
abbrev pub IsLatest : History → List ℕ → Answered → ℕ → Type 0
IsLatest earlier url answer expiry = (at : ℕ) × (latest url earlier ≡ Some (answer, at)) × (expiry_of answer at ≡ Some expiry)

-- no flight is under way for the URL
abbrev pub NoneFlew : History → List ℕ → Type 0
NoneFlew earlier url = (number : ℕ) → flying_in earlier number ≢ Some url

-- a bridged landing is of a flight under way, and yields the latest answer, before its expiry plus its extension
abbrev pub Bridges : History → Flight → Answered → ℕ → Answered → Type 0
Bridges earlier flight answer now given = IsTrue (is_bridged answer given) × (flying_in earlier flight.number ≡ Some flight.url) × (expiry : ℕ) × IsLatest earlier flight.url given expiry × (now < second_after expiry (extension_of given.reply))

-- what a call says about the earlier ones
abbrev pub Follows : History → Event → Type 0
-- a hit is the latest answer, before its expiry
Follows earlier (Began url now (Hit answer)) = (expiry : ℕ) × IsLatest earlier url answer expiry × (now < expiry)
-- a join is of the flight that is under way for the URL
Follows earlier (Began url now (Join number)) = flying_in earlier number ≡ Some url
-- a flight is led if none is under way for the URL, with a failed answer; flights are numbered from 0, in turn
Follows earlier (Began url now (Lead flight ready)) = (flight.url ≡ url) × (flight.number ≡ leads earlier) × (ready ≡ failed url) × NoneFlew earlier url
Follows earlier (Began url now Bypass) = ⊤
-- an answer that is looked for and found is the latest one, before its expiry
Follows earlier (Looked url now (Found answer)) = (expiry : ℕ) × IsLatest earlier url answer expiry × (now < expiry)
Follows earlier (Looked url now Missing) = ⊤
Follows earlier (Looked url now Refused) = ⊤
-- a landing that isn't bridged, and a `land` of a flight that isn't under way, return what is handed in
Follows earlier (Landed flight answer now given) = (given ≡ answer) ⊎ Bridges earlier flight answer now given
-- a pick-up yields the answer with which the flight landed, and there was a join for it
Follows earlier (PickedUp number (Here answer)) = (landed_in earlier number ≡ Some answer) × (heres earlier number < joins earlier number)
-- a flight whose answer is still to come is under way, and one that is unknown isn't
Follows earlier (PickedUp number Flying) = IsSome (flying_in earlier number)
Follows earlier (PickedUp number Unknown) = flying_in earlier number ≡ None
Follows earlier (Purged is_gone) = ⊤

-- each call follows from those before it
abbrev pub Keeps : History → Type 0
Keeps [] = ⊤
Keeps (event ∷ earlier) = Follows earlier event × Keeps earlier

-- at most one flight flies for a URL
abbrev pub OneFlies : History → Type 0
OneFlies history = (url : List ℕ) (one other : ℕ) → flying_in history one ≡ Some url → flying_in history other ≡ Some url → one ≡ other

-- The law of the cache: in every run of a new shard each call follows from the earlier ones, and at most one flight flies for a URL.
abbrev pub CacheLaw : Type 0
CacheLaw = (capacity : ℕ) (history : History) (s : State) → Run capacity history s → Keeps history × OneFlies history
