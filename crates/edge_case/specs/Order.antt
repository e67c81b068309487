-- Lists of events, as texts write them.
use Rattle.std.specs.Prelude.{◌≡◌, ℕ, ◌<◌, ◌≤◌, ◌==◌, nat_le, List, [], ◌∷◌, ◌++◌, length, codes, bytes_eq, Option, Some, None, if◌then◌else◌}
use Rattle.std.specs.Option.{option_map}
use Rattle.std.specs.List.{slice_split, join_with_byte}
use Rattle.std.specs.Str.{byte}
use Rattle.edge_types.specs.Decimal.{WritesNumber, decimal_of}
use Rattle.plan_runner.specs.declared.events.Event.{Event}
use Rattle.plan_runner.specs.declared.events.Event.TheVariants.{Claim, Post, Advance}
use Rattle.edge_case.specs.Reading.{◌>>=◌}

-- the byte between the items of a list
abbrev pub comma : ℕ
comma = byte ","

-- ---- how they are spelled

-- a place: one to four digits
pub record WritesPlace (digits : List ℕ) (place : ℕ) : Type 0 where
  pub few : length digits ≤ 4
  pub number : WritesNumber digits place

-- an item: `c`, `a`, or `p` and a place
abbrev pub WritesEvent : List ℕ → Event → Type 0
WritesEvent item Claim = item ≡ codes "c"
WritesEvent item Advance = item ≡ codes "a"
WritesEvent item (Post place) = (digits : List ℕ) × (item ≡ codes "p" ++ digits) × WritesPlace digits place

-- each item writes its event, in order
abbrev pub WriteEach : List (List ℕ) → List Event → Type 0
WriteEach [] [] = Unit {0}
WriteEach [] (event ∷ events) = ⊥
WriteEach (item ∷ items) [] = ⊥
WriteEach (item ∷ items) (event ∷ events) = WritesEvent item event × WriteEach items events

-- the text is one item or more, with commas between, which write these events
pub record Lists (text : List ℕ) (events : List Event) : Type 0 where
  pub items : List (List ℕ)
  pub some : 0 < length items
  pub joined : text ≡ join_with_byte comma items
  pub written : WriteEach items events

-- ---- how they are read

-- the place that the digits write
unfoldable pub place_of : List ℕ → Option ℕ
place_of digits = if nat_le (length digits) 4 then decimal_of digits 9999 else None

abbrev pub plain_event : List ℕ → Option Event
plain_event item = if bytes_eq item (codes "c") then Some Claim else (if bytes_eq item (codes "a") then Some Advance else None)

-- the event that an item writes
unfoldable pub event_of : List ℕ → Option Event
event_of [] = None
event_of (mark ∷ digits) = if mark == byte "p" then option_map Post (place_of digits) else plain_event (mark ∷ digits)

-- the events so far with one more, if there is one
abbrev pub after_item : List Event → Option Event → Option (List Event)
after_item events event = option_map (λ e. events ++ e ∷ []) event

-- the events that items write
abbrev pub events_by : List (List ℕ) → Option (List Event)
events_by [] = Some []
events_by (item ∷ items) = do
  event ← event_of item
  events ← events_by items
  Some (event ∷ events)

-- the events that a text lists
unfoldable pub events_of : List ℕ → Option (List Event)
events_of text = events_by (slice_split (λ b. b == comma) text)
