-- What processing a piece of a template results in: the legs that it tries, in order, and its text, or none if it
-- fails. A leg is one `src` or one `alt` that is tried.
use Rattle.std.specs.Prelude.{ℕ, List, [], ◌∷◌, ◌++◌, Option, Some, None}

-- a leg: the level at which it is tried and the URL that it asks for, or one for which nothing is fetched
pub data Leg : Type 0 where
  Asks : (level : ℕ) (url : List ℕ) → Leg
  AsksNobody : Leg

pub record Run : Type 0 where
  pub legs : List Leg
  pub text : Option (List ℕ)

-- a text, or a failure, for which no leg was tried
abbrev pub gives : Option (List ℕ) → Run
gives text = record { legs = []; text = text }

-- a leg, and then what it results in
abbrev pub tries : Leg → Run → Run
tries leg after = record { legs = leg ∷ after.legs; text = after.text }

-- a run, and then one that depends on the result of the first
abbrev pub followed : Run → (Option (List ℕ) → Run) → Run
followed a next = record { legs = a.legs ++ (next a.text).legs; text = (next a.text).text }

-- the text of the front before that of the back
abbrev pub with_front : List ℕ → Option (List ℕ) → Option (List ℕ)
with_front front None = None
with_front front (Some back) = Some (front ++ back)

abbrev pub behind : Run → Option (List ℕ) → Run
behind b None = gives None
behind b (Some front) = record { legs = b.legs; text = with_front front b.text }

-- a and then b: nothing of b is tried if a fails
abbrev pub in_turn : Run → Run → Run
in_turn a b = followed a (behind b)

abbrev pub instead : Run → Option (List ℕ) → Run
instead b None = b
instead b (Some text) = gives (Some text)

-- a, or b if a fails: nothing of b is tried if a has a text
abbrev pub or_else : Run → Run → Run
or_else a b = followed a (instead b)
