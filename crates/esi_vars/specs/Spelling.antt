-- Which parts spell a text.
use Rattle.std.specs.Prelude.{◌≡◌, ℕ, ◌<◌, List, [], ◌∷◌, ◌++◌, length, drop}
use Rattle.esi_vars.specs.declared.reference.Reference.{Reference}
use Rattle.esi_vars.specs.declared.part.Part.{Part}
use Rattle.esi_vars.specs.declared.part.Part.TheVariants as part
use Rattle.esi_vars.specs.Reference.{IsReference}

-- a reference is at the front of the text
abbrev pub BeginsReference : List ℕ → Type 0
BeginsReference text = (r : Reference) × (piece : List ℕ) × (rest : List ℕ) × IsReference piece r × (text ≡ piece ++ rest)

-- the piece, with this rest after it, spells the part; in a text no reference begins
abbrev pub IsPart : Part → List ℕ → List ℕ → Type 0
IsPart (part.Text bytes) piece rest =
    (piece ≡ bytes) × (0 < length bytes) × ((i : ℕ) → i < length bytes → ¬ BeginsReference (drop i (bytes ++ rest)))
IsPart (part.Reference r) piece rest = IsReference piece r

-- two texts never touch
abbrev pub Apart : Part → List Part → Type 0
Apart (part.Text bytes) (part.Text more ∷ ps) = ⊥
Apart (part.Text bytes) (part.Reference r ∷ ps) = Unit {0}
Apart (part.Text bytes) [] = Unit {0}
Apart (part.Reference r) ps = Unit {0}

-- the parts spell the text
abbrev pub Spells : List Part → List ℕ → Type 0
Spells [] text = text ≡ []
Spells (p ∷ ps) text =
    (piece : List ℕ) × (rest : List ℕ) × (text ≡ piece ++ rest) × IsPart p piece rest × Apart p ps × Spells ps rest
