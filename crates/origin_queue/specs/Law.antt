-- What is true of every run of a queue, by the calls and their answers alone. A history has the latest call first.
use Rattle.std.specs.Prelude.{◌≡◌, ◌≢◌, ℕ, ◌+◌, ◌-◌, ◌^◌, ◌<◌, ◌≤◌, ◌⊎◌, Bool, IsTrue, IsFalse, ⊤, List, [], ◌∷◌, ◌++◌, length, Option, Some, None, if◌then◌else◌}
use Rattle.origin_queue.specs.declared.queue.QueueBounds.{QueueBounds}
use Rattle.origin_queue.specs.declared.queue.Place.{Place}
use Rattle.origin_queue.specs.declared.queue.Ruling.{Ruling}
use Rattle.origin_queue.specs.declared.queue.Ruling.TheVariants.{Goes, Waits, Full}
use Rattle.origin_queue.specs.Queued.{Queued, stands, without}
use Rattle.origin_queue.specs.Queue.{dismissed, fresh, uncalled, Asks, Frees, Leaves}

-- a call: somebody asked, and was told this; a permit was handed back, and this place was called; who has a place
-- took his permit, if he was called; who has a place left, and this other one was called; all who wait were dismissed
pub data Event : Type 0 where
  Asked : (ruling : Ruling) → Event
  Freed : (next : Option Place) → Event
  Took : (place : Place) (was_called : Bool) → Event
  Left : (place : Place) (next : Option Place) → Event
  Dismissed : Event

abbrev pub History : Type 0
History = List Event

-- the call leads from old to new
abbrev pub Step : Queued → Event → Queued → Type 0
Step old (Asked ruling) new = Asks old ruling new
Step old (Freed next) new = Frees old next new
Step old (Took place was_called) new = (was_called ≡ stands place.number old.called) × (new ≡ uncalled place.number old)
Step old (Left place next) new = Leaves old place.number next new
Step old Dismissed new = new ≡ dismissed old

-- a queue with these bounds is like this after these calls
abbrev pub Run : QueueBounds → History → Queued → Type 0
Run bounds [] queue = queue ≡ fresh bounds
Run bounds (event ∷ earlier) queue = (before : Queued) × Run bounds earlier before × Step before event queue

-- how many places were given
abbrev pub given : History → ℕ
given [] = 0
given (Asked Goes ∷ earlier) = given earlier
given (Asked (Waits place) ∷ earlier) = given earlier + 1
given (Asked Full ∷ earlier) = given earlier
given (Freed next ∷ earlier) = given earlier
given (Took place was_called ∷ earlier) = given earlier
given (Left place next ∷ earlier) = given earlier
given (Dismissed ∷ earlier) = given earlier

-- those but who is called by this call
abbrev pub but_called : Option Place → List ℕ → List ℕ
but_called None places = places
but_called (Some place) places = without place.number places

abbrev pub and_called : Option Place → List ℕ → List ℕ
and_called None places = places
and_called (Some place) places = places ++ place.number ∷ []

-- who joined, and was neither called or dismissed since nor has left, in the order of asking
abbrev pub waiting : History → List ℕ
waiting [] = []
waiting (Asked Goes ∷ earlier) = waiting earlier
waiting (Asked (Waits place) ∷ earlier) = waiting earlier ++ place.number ∷ []
waiting (Asked Full ∷ earlier) = waiting earlier
waiting (Freed next ∷ earlier) = but_called next (waiting earlier)
waiting (Took place was_called ∷ earlier) = waiting earlier
waiting (Left place next ∷ earlier) = but_called next (without place.number (waiting earlier))
waiting (Dismissed ∷ earlier) = []

-- who was called, and neither took his permit since nor has left
abbrev pub called : History → List ℕ
called [] = []
called (Asked ruling ∷ earlier) = called earlier
called (Freed next ∷ earlier) = and_called next (called earlier)
called (Took place was_called ∷ earlier) = without place.number (called earlier)
called (Left place next ∷ earlier) = and_called next (without place.number (called earlier))
called (Dismissed ∷ earlier) = called earlier

-- a permit that nobody is called to take is free again
abbrev pub kept_for : Option Place → ℕ → ℕ
kept_for None count = count - 1
kept_for (Some place) count = count

-- how many permits are with fetches that go, or kept for those that are called
abbrev pub out : History → ℕ
out [] = 0
out (Asked Goes ∷ earlier) = out earlier + 1
out (Asked (Waits place) ∷ earlier) = out earlier
out (Asked Full ∷ earlier) = out earlier
out (Freed next ∷ earlier) = kept_for next (out earlier)
out (Took place was_called ∷ earlier) = out earlier
out (Left place next ∷ earlier) = if stands place.number (called earlier) then kept_for next (out earlier) else out earlier
out (Dismissed ∷ earlier) = out earlier

-- who is called waited first; nobody is only where nobody waited
abbrev pub IsFirst : Option Place → List ℕ → List ℕ → Type 0
IsFirst None before after = before ≡ []
IsFirst (Some place) before after = before ≡ place.number ∷ after

-- what a call says about the earlier ones
abbrev pub Follows : QueueBounds → History → Event → Type 0
-- who asks goes at once exactly if nobody waits and a permit is free
Follows bounds earlier (Asked Goes) = (waiting earlier ≡ []) × (out earlier < bounds.permits)
-- otherwise he waits behind all others,
Follows bounds earlier (Asked (Waits place)) = (out earlier ≡ bounds.permits) × (length (waiting earlier) < bounds.most_waiting) × (place.number ≡ given earlier)
-- unless as many wait as may, or no number is left for a place
Follows bounds earlier (Asked Full) = (out earlier ≡ bounds.permits) × ((length (waiting earlier) ≡ bounds.most_waiting) ⊎ (2 ^ 64 - 1 ≤ given earlier))
Follows bounds earlier (Freed next) = IsFirst next (waiting earlier) (waiting (Freed next ∷ earlier))
-- only who is called gets a permit
Follows bounds earlier (Took place was_called) = was_called ≡ stands place.number (called earlier)
-- who was called and leaves has the next one called; who wasn't calls nobody
Follows bounds earlier (Left place next) = (IsTrue (stands place.number (called earlier)) × IsFirst next (waiting earlier) (waiting (Left place next ∷ earlier)))
    ⊎ (IsFalse (stands place.number (called earlier)) × (next ≡ None))
Follows bounds earlier Dismissed = ⊤

-- each call follows from those before it
abbrev pub Keeps : QueueBounds → History → Type 0
Keeps bounds [] = ⊤
Keeps bounds (event ∷ earlier) = Follows bounds earlier event × Keeps bounds earlier

-- The law of a queue: in every run each call follows from the earlier ones.
abbrev pub QueueLaw : Type 0
QueueLaw = (bounds : QueueBounds) (history : History) (queue : Queued) → Run bounds history queue → Keeps bounds history

-- Never do more wait than may.
abbrev pub NeverMoreWait : Type 0
NeverMoreWait = (bounds : QueueBounds) (history : History) (queue : Queued) → Run bounds history queue → length (waiting history) ≤ bounds.most_waiting

-- Never are more permits out than there are.
abbrev pub NeverMoreOut : Type 0
NeverMoreOut = (bounds : QueueBounds) (history : History) (queue : Queued) → Run bounds history queue → out history ≤ bounds.permits

-- No call is lost: while somebody waits, each permit is with a fetch that goes, or kept for one that is called.
abbrev pub NoCallIsLost : Type 0
NoCallIsLost = (bounds : QueueBounds) (history : History) (queue : Queued) → Run bounds history queue → waiting history ≢ [] → out history ≡ bounds.permits

-- this place was called by this call
abbrev pub IsCalledBy : ℕ → Option Place → Type 0
IsCalledBy number None = ⊥
IsCalledBy number (Some place) = place.number ≡ number

-- this place was called
abbrev pub WasCalled : ℕ → History → Type 0
WasCalled number [] = ⊥
WasCalled number (Asked ruling ∷ earlier) = WasCalled number earlier
WasCalled number (Freed next ∷ earlier) = IsCalledBy number next ⊎ WasCalled number earlier
WasCalled number (Took place was_called ∷ earlier) = WasCalled number earlier
WasCalled number (Left place next ∷ earlier) = IsCalledBy number next ⊎ WasCalled number earlier
WasCalled number (Dismissed ∷ earlier) = WasCalled number earlier

-- Nobody overtakes: whoever was called had joined before everybody who waits.
abbrev pub NobodyOvertakes : Type 0
NobodyOvertakes = (bounds : QueueBounds) (history : History) (queue : Queued) → Run bounds history queue
    → (first later : ℕ) → WasCalled first history → IsTrue (stands later (waiting history)) → first < later
