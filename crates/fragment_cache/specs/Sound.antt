-- What holds of every shard.
use Rattle.std.specs.Prelude.{◌≡◌, ℕ, ◌<◌, ◌≤◌, List, length, bytes_eq, IfSome, Some, ⊤}
use Rattle.std.specs.List.{AllByRecursion, IsDistinct}
use Rattle.std.specs.Map.{keys_of}
use Rattle.fragment_cache.specs.Machine.{State, Entry, FlightState, Entries, Flights, flying_at}
use Rattle.fragment_cache.specs.Steps.{BeginAnswer, Hit, Join, Lead, Bypass}

-- the entry holds an answer of its URL
abbrev pub IsNamed : List ℕ × Entry → Type 0
IsNamed e = e.1.answer.url ≡ e.0

-- a flight that has landed holds an answer of its URL
abbrev pub HasNamed : FlightState → Type 0
HasNamed f = IfSome f.landed (λ answer. answer.url ≡ f.url)

-- the entries hold answers of their URLs, no URL has two, and there are no more than the capacity
pub record AreEntries (capacity : ℕ) (entries : Entries) : Type 0 where
  pub named : AllByRecursion IsNamed entries
  pub distinct : IsDistinct bytes_eq (keys_of entries)
  pub within : length entries ≤ capacity

-- flights that have landed hold answers of their URLs, no URL has two flights under way, and numbers are below the next
pub record AreFlights (flights : Flights) (next : ℕ) : Type 0 where
  pub named : AllByRecursion (λ e. HasNamed e.1) flights
  pub one_flies : (url : List ℕ) (one other : ℕ) → flying_at flights one ≡ Some url → flying_at flights other ≡ Some url → one ≡ other
  pub below : AllByRecursion (λ e. e.0 < next) flights

-- a shard is sound
pub record IsSound (s : State) : Type 0 where
  pub entries : AreEntries s.capacity s.entries
  pub flights : AreFlights s.flights s.next

-- what `begin` returns names the URL that was asked for: a stored answer, a flight and the failed answer for it
abbrev pub NamesUrl : List ℕ → BeginAnswer → Type 0
NamesUrl url (Hit answer) = answer.url ≡ url
NamesUrl url (Join number) = ⊤
NamesUrl url (Lead flight ready) = (flight.url ≡ url) × (ready.url ≡ url)
NamesUrl url Bypass = ⊤
