-- Which parts a value has: the commas between them are those outside quotes.
use Rattle.std.specs.Prelude.{◌≡◌, ℕ, ◌<◌, Bool, true, false, not, ◌==◌, List, [], ◌∷◌, ◌++◌, length, take, slice_index, if◌then◌else◌}
use Rattle.std.specs.Str.{byte}
use Rattle.surrogate_headers.specs.Cut.{parts_of}

-- a text with an odd number of quotes leaves one open
abbrev pub is_open : List ℕ → Bool
is_open [] = false
is_open (b ∷ bs) = if b == byte "\"" then not (is_open bs) else is_open bs

-- each comma of the part is inside quotes
abbrev pub IsWhole : List ℕ → Type 0
IsWhole part = (i : ℕ) → i < length part → slice_index part i ≡ byte "," → is_open (take i part) ≡ true

-- the value is these parts with a comma between each two; no part can be cut, and no quote is open at a comma between
abbrev pub IsCut : List (List ℕ) → List ℕ → Type 0
IsCut [] value = ⊥
IsCut (part ∷ []) value = (value ≡ part) × IsWhole part
IsCut (part ∷ next ∷ parts) value =
    (rest : List ℕ) × (value ≡ part ++ byte "," ∷ rest) × IsWhole part × (is_open part ≡ false) × IsCut (next ∷ parts) rest

-- The parts of a value are a cut of it, and the only one.
pub record CutsValues : Type 0 where
  pub is_cut : (value : List ℕ) → IsCut (parts_of value) value
  pub only : (value : List ℕ) (parts : List (List ℕ)) → IsCut parts value → parts ≡ parts_of value
