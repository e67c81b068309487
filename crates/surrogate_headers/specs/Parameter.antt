-- The parameter of a directive: the value after its name's `=`.
use Rattle.std.specs.Prelude.{ℕ, Bool, true, false, ◌&&◌, ◌||◌, ◌==◌, nat_lt, min, List, [], ◌∷◌, length, take, drop, codes, bytes_eq, filter, Option, Some, None, option_and_then, option_map, if◌then◌else◌}
use Rattle.std.specs.List.{list_all, list_any, slice_split, position_or_len}
use Rattle.std.specs.Char.{is_ascii_digit}
use Rattle.std.specs.Str.{byte}
use Rattle.std.specs.Str.Parse.{digits_value}
use Rattle.edge_types.specs.Halves.{around}
use Rattle.edge_types.specs.WhiteSpace.{is_ws}
use Rattle.surrogate_headers.specs.declared.parameter.Age.{Age}

infixl 10 ◌>>=◌
abbrev pub ◌>>=◌ : {A B : Type 0} → Option A → (A → Option B) → Option B
o >>= f = option_and_then f o

-- a byte that ends a value without quotes
unfoldable pub ends_value : ℕ → Bool
ends_value b = is_ws b || (b == byte "," || (b == byte ";" || b == byte "\""))

-- one or more bytes before the first that ends a value, and what follows them
unfoldable pub bare_value : List ℕ → Option (List ℕ × List ℕ)
bare_value text =
    let n = position_or_len ends_value text in
    if n == 0 then None else Some (take n text, drop n text)

-- the value in its quotes or without them, and what follows it
abbrev pub value_after_equals : List ℕ → Option (List ℕ × List ℕ)
value_after_equals [] = None
value_after_equals (b ∷ bs) = if b == byte "\"" then around (byte "\"") bs else bare_value (b ∷ bs)

-- the value after the `=`, and what follows it
unfoldable pub value_at : List ℕ → Option (List ℕ × List ℕ)
value_at [] = None
value_at (b ∷ bs) = if b == byte "=" then value_after_equals bs else None

-- the largest number of seconds that counts
abbrev pub max_seconds : ℕ
max_seconds = 2147483647

-- the number that one or more digits write; a larger one counts as the largest
unfoldable pub seconds_of : List ℕ → Option ℕ
seconds_of digits = if nat_lt 0 (length digits) && list_all is_ascii_digit digits then Some (min (digits_value 10 digits) max_seconds) else None

abbrev pub age : ℕ → ℕ → Age
age seconds extension = record { seconds = seconds; extension = extension }

-- a number, or two with a `+` between them
abbrev pub age_around : List ℕ → Option (List ℕ × List ℕ) → Option Age
age_around value None = option_map (λ n. age n 0) (seconds_of value)
age_around value (Some halves) = do
  seconds ← seconds_of halves.0
  extension ← seconds_of halves.1
  Some (age seconds extension)

-- the age that a value writes
unfoldable pub age_of : List ℕ → Option Age
age_of value = age_around value (around (byte "+") value)

-- the piece isn't empty
abbrev pub is_filled : List ℕ → Bool
is_filled [] = false
is_filled (b ∷ bs) = true

-- the words of a value: the pieces between its white bytes that aren't empty
unfoldable pub words_of : List ℕ → List (List ℕ)
words_of value = filter is_filled (slice_split is_ws value)

-- whether one of the words is `ESI/1.0`
unfoldable pub names_esi : List ℕ → Bool
names_esi value = list_any (λ word. bytes_eq word (codes "ESI/1.0")) (words_of value)
