-- What is in a field, stated without a search: its parts, their names and values, and the text after a word.
use Rattle.std.specs.Prelude.{◌≡◌, ◌≢◌, ◌⊎◌, ⊤, ℕ, ◌<◌, List, [], ◌∷◌, ◌++◌, length, drop}
use Rattle.std.specs.Str.{byte}
use Rattle.std.specs.Char.{to_ascii_lowercase}
use Rattle.std.specs.List.{All, Contains, join_with_byte}

-- the field is these parts, with such a byte between each two and in none of them
pub record AreParts (c : ℕ) (field : List ℕ) (parts : List (List ℕ)) : Type 0 where
  pub some : 0 < length parts
  pub whole : join_with_byte c parts ≡ field
  pub uncut : All (λ part. ¬ Contains part c) parts

-- the text is cut at the first such byte; if there is none, it is the front, and nothing follows it
abbrev pub AreHalves : ℕ → List ℕ → List ℕ × List ℕ → Type 0
AreHalves c text halves =
    (¬ Contains halves.0 c) × ((text ≡ halves.0 ++ c ∷ halves.1) ⊎ ((text ≡ halves.0) × (halves.1 ≡ [])))

-- the part is `name=value`, or a name alone, whose value is empty
abbrev pub HasName : List ℕ → List ℕ → Type 0
HasName name part = (value : List ℕ) × AreHalves (byte "=") part (name, value)

-- the first part with the name has the value
pub record IsFirstNamed (name : List ℕ) (parts : List (List ℕ)) (value : List ℕ) : Type 0 where
  pub before : List (List ℕ)
  pub part : List ℕ
  pub after : List (List ℕ)
  pub whole : parts ≡ before ++ part ∷ after
  pub others : All (λ other. ¬ HasName name other) before
  pub is : AreHalves (byte "=") part (name, value)

-- the value of the first part with the name; nothing if no part has the name
abbrev pub IsNamed : List ℕ → List (List ℕ) → List ℕ → Type 0
IsNamed name parts value =
    IsFirstNamed name parts value ⊎ (All (λ part. ¬ HasName name part) parts × (value ≡ []))

-- the rest of the text follows the first place at which the word begins
pub record IsBehind (word text rest : List ℕ) : Type 0 where
  pub before : List ℕ
  pub whole : text ≡ before ++ (word ++ rest)
  pub first : (i : ℕ) (later : List ℕ) → i < length before → drop i text ≢ word ++ later

-- the rest of a text begins where a part does: it is the whole, or follows such a byte at the end of a front like this
abbrev pub BeginsPart : ℕ → (List ℕ → Type 0) → List ℕ → List ℕ → Type 0
BeginsPart c Front text rest =
    (rest ≡ text) ⊎ ((front : List ℕ) × Front front × (text ≡ front ++ c ∷ rest))

-- the text has this letter, in either case
abbrev pub HasLetter : ℕ → List ℕ → Type 0
HasLetter letter text = (b : ℕ) × Contains text b × (to_ascii_lowercase b ≡ to_ascii_lowercase letter)

-- the text has the first letter of the word, in either case, if the word has one
abbrev pub HasFirstLetter : List ℕ → List ℕ → Type 0
HasFirstLetter [] text = ⊤
HasFirstLetter (letter ∷ letters) text = HasLetter letter text
