-- What a run does to the bytes that its reader has left and its writer holds.
use Rattle.std.specs.Prelude.{◌≡◌, ◌⊎◌, ◌+◌, ◌<◌, ◌≤◌, ℕ, List, ◌++◌, length, Option, IfSome}
use Rattle.std.specs.Io.KnownBytes.{Appends, Consumes, IsAtEnd}

-- the known bytes lost at most this many
pub record TakesAtMost (most : ℕ) (before after : Option (List ℕ)) : Type 0 where
  pub taken : List ℕ
  pub few : length taken ≤ most
  pub consumed : Consumes before after taken

-- the known bytes lost exactly this many
pub record TakesExactly (n : ℕ) (before after : Option (List ℕ)) : Type 0 where
  pub taken : List ℕ
  pub count : length taken ≡ n
  pub consumed : Consumes before after taken

-- the input was read to its end, or to one byte more than this many
abbrev pub IsReadThrough : ℕ → Option (List ℕ) → Option (List ℕ) → Type 0
IsReadThrough most before after = IsAtEnd after ⊎ TakesExactly (most + 1) before after

-- n bytes, of at most this many, were moved from the known bytes to a text; none only at their end
pub record Moves (most n : ℕ) (before after : Option (List ℕ)) (old new : List ℕ) : Type 0 where
  pub taken : List ℕ
  pub count : length taken ≡ n
  pub few : n ≤ most
  pub consumed : Consumes before after taken
  pub added : new ≡ old ++ taken
  pub end : n ≡ 0 → 0 < most → IsAtEnd after

-- these bytes are the whole input, if the reader reveals it
abbrev pub IsInput : Option (List ℕ) → List ℕ → Type 0
IsInput known input = IfSome known (λ bytes. bytes ≡ input)

-- the input is longer than this many bytes, if the reader reveals it
abbrev pub IsLonger : ℕ → Option (List ℕ) → Type 0
IsLonger n known = IfSome known (λ bytes. n < length bytes)

-- the known bytes grew by these except for the rest
pub record AppendsUpTo (before after : Option (List ℕ)) (bytes rest : List ℕ) : Type 0 where
  pub part : List ℕ
  pub whole : bytes ≡ part ++ rest
  pub written : Appends before after part

-- the known bytes grew by only a first part of these
abbrev pub AppendsPart : Option (List ℕ) → Option (List ℕ) → List ℕ → Type 0
AppendsPart before after bytes = (rest : List ℕ) × AppendsUpTo before after bytes rest × (0 < length rest)
