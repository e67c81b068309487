-- The cache machine: what a shard keeps, and names for what it does with it.
use Rattle.std.specs.Prelude.{◌≢◌, ℕ, ◌+◌, ◌-◌, ◌^◌, min, Bool, not, bytes_eq, nat_eq, nat_lt, List, [], ◌∷◌, ◌++◌, length, sum_by, take, filter, Option, Some, None, is_none, option_and_then, if◌then◌else◌}
use Rattle.std.specs.Option.{option_map_or}
use Rattle.std.specs.List.{starts_with, list_any}
use Rattle.std.specs.Map.{lookup}
use Rattle.std.specs.Ordering.{eq_by_cmp, nat_cmp}
use Rattle.edge_types.specs.Answered.{Answered, body_of}
use Rattle.fragment_cache.specs.Times.{second_after, extension_of}

-- a stored answer, and the second at which it expires
pub record Entry : Type 0 where
  pub answer : Answered
  pub expiry : ℕ

-- what a leader holds: the number of its flight, and the URL that it fetches
pub record Flight : Type 0 where
  pub number : ℕ
  pub url : List ℕ

-- a flight as the shard keeps it: its URL, the answer with which it landed (none while it flies), and the pick-ups left
pub record FlightState : Type 0 where
  pub url : List ℕ
  pub landed : Option Answered
  pub picks : ℕ

-- entries by URL, newest use first; flights by number, in order; the next number; how many entries there may be
pub record State : Type 0 where
  pub entries : List (List ℕ × Entry)
  pub flights : List (ℕ × FlightState)
  pub next : ℕ
  pub capacity : ℕ

-- the entries of a shard, and how many there may be
pub record Shelf : Type 0 where
  pub entries : List (List ℕ × Entry)
  pub capacity : ℕ

-- the flights of a shard, and the next number
pub record Airspace : Type 0 where
  pub flights : List (ℕ × FlightState)
  pub next : ℕ

abbrev pub Entries : Type 0
Entries = List (List ℕ × Entry)

abbrev pub Flights : Type 0
Flights = List (ℕ × FlightState)

-- the flights of a shard, and its next number
abbrev pub airspace : State → Airspace
airspace s = record { flights = s.flights; next = s.next }

-- an empty shard
abbrev pub empty : ℕ → State
empty capacity = record { entries = []; flights = []; next = 0; capacity = capacity }

-- ---- entries

-- the entry of a URL
abbrev pub entry_of : Entries → List ℕ → Option Entry
entry_of entries url = lookup (bytes_eq url) entries

-- the entries of all other URLs
abbrev pub others : List ℕ → Entries → Entries
others url entries = filter (λ e. not (bytes_eq url e.0)) entries

-- the entries of URLs that aren't among these
abbrev pub left : (List ℕ → Bool) → Entries → Entries
left is_gone entries = filter (λ e. not (is_gone e.0)) entries

-- the URL is one of these
abbrev pub is_among : List (List ℕ) → List ℕ → Bool
is_among urls url = list_any (λ u. bytes_eq u url) urls

-- the URL begins so
abbrev pub begins : List ℕ → List ℕ → Bool
begins prefix url = starts_with nat_eq url prefix

-- the URL's entry first, then the others
abbrev pub used : List ℕ → Entries → Entries
used url entries = filter (λ e. bytes_eq url e.0) entries ++ others url entries

-- this entry of the URL first, in place of an older one, else of the last one if the shard is full
abbrev pub stored : ℕ → List ℕ → Entry → Entries → Entries
stored capacity url entry entries = (url, entry) ∷ take (capacity - 1) (others url entries)

-- the bytes of an entry's body
abbrev pub body_bytes : Entry → ℕ
body_bytes e = length (body_of e.answer.reply)

-- the bytes of the bodies of the entries, up to the largest number of 64 bits
abbrev pub bytes_of : Entries → ℕ
bytes_of entries = min (sum_by (λ e. body_bytes e.1) entries) (2 ^ 64 - 1)

-- the entry's answer, if now is before this second
abbrev pub answer_before : ℕ → ℕ → Answered → Option Answered
answer_before now end answer = if nat_lt now end then Some answer else None

-- the answer that hits: that of the URL's entry, before its expiry
abbrev pub fresh : Entries → List ℕ → ℕ → Option Answered
fresh entries url now = option_and_then (λ e. answer_before now e.expiry e.answer) (entry_of entries url)

-- until when an entry bridges a failing origin
abbrev pub bridge_end : Entry → ℕ
bridge_end e = second_after e.expiry (extension_of e.answer.reply)

-- the answer that bridges: that of the URL's entry, before its expiry plus its extension
abbrev pub bridging : Entries → List ℕ → ℕ → Option Answered
bridging entries url now = option_and_then (λ e. answer_before now (bridge_end e) e.answer) (entry_of entries url)

-- ---- flights

-- these are the same number
abbrev pub same_number : ℕ → ℕ → Bool
same_number = eq_by_cmp nat_cmp

-- the flight with a number
abbrev pub flight_at : Flights → ℕ → Option FlightState
flight_at flights number = lookup (same_number number) flights

-- the URL for which a flight is under way: none once it has landed
abbrev pub flying : FlightState → Option (List ℕ)
flying f = if is_none f.landed then Some f.url else None

-- the URL for which the flight with a number is under way: none if it has landed or isn't there
abbrev pub flying_at : Flights → ℕ → Option (List ℕ)
flying_at flights number = option_and_then flying (flight_at flights number)

-- the answer with which the flight with a number landed
abbrev pub landed_at : Flights → ℕ → Option Answered
landed_at flights number = option_and_then (λ f. f.landed) (flight_at flights number)

-- how many pick-ups the flight with a number has left
abbrev pub picks_at : Flights → ℕ → ℕ
picks_at flights number = option_map_or (λ f. f.picks) (flight_at flights number) 0

-- no flight is under way for the URL
abbrev pub NoneFlies : Flights → List ℕ → Type 0
NoneFlies flights url = (number : ℕ) → flying_at flights number ≢ Some url

-- the pairs, with a change of the value at the first key that passes
abbrev pub changed_value : {K X : Type 0} → (K → Bool) → (X → X) → List (K × X) → List (K × X)
changed_value test change [] = []
changed_value test change (e ∷ es) = if test e.0 then (e.0, change e.1) ∷ es else e ∷ changed_value test change es

-- the flights, with a change of the one with this number
abbrev pub changed : ℕ → (FlightState → FlightState) → Flights → Flights
changed number change flights = changed_value (same_number number) change flights

-- the flights without the one with this number
abbrev pub without : ℕ → Flights → Flights
without number flights = filter (λ e. not (same_number number e.0)) flights

-- a flight that has just left: it is under way, and nobody waits for it
abbrev pub departed : List ℕ → FlightState
departed url = record { url = url; landed = None; picks = 0 }

abbrev pub one_more : FlightState → FlightState
one_more f = record f { picks = f.picks + 1 }

abbrev pub one_fewer : FlightState → FlightState
one_fewer f = record f { picks = f.picks - 1 }

abbrev pub landed_with : Answered → FlightState → FlightState
landed_with answer f = record f { landed = Some answer }

-- the flights after a pick-up of this one: the last pick-up ends it
abbrev pub picked : ℕ → Flights → Flights
picked number flights = if nat_lt 1 (picks_at flights number) then changed number one_fewer flights else without number flights
