-- The pieces of a page's body.
use Rattle.std.specs.Prelude.{◌≢◌, ℕ, List, [], ◌∷◌, ◌++◌, ◌≡◌, ◌+◌, ◌≤◌, length, slice_range}
use Rattle.std.specs.List.{concat}

-- the bytes of a body, whatever its pieces
abbrev pub joined : List (List ℕ) → List ℕ
joined pieces = concat pieces

-- the pieces with these bytes after them: no bytes make no piece
abbrev pub with_piece : List (List ℕ) → List ℕ → List (List ℕ)
with_piece pieces [] = pieces
with_piece pieces (byte ∷ bytes) = pieces ++ (byte ∷ bytes) ∷ []

-- the pieces with these after them, one after another
abbrev pub with_pieces : List (List ℕ) → List (List ℕ) → List (List ℕ)
with_pieces pieces [] = pieces
with_pieces pieces (piece ∷ more) = with_pieces (with_piece pieces piece) more

-- a piece has bytes
abbrev pub IsPiece : List ℕ → Type 0
IsPiece bytes = bytes ≢ []

-- these bytes stand in a text from a place on
abbrev pub StandsAt : ℕ → List ℕ → List ℕ → Type 0
StandsAt from bytes text = (from + length bytes ≤ length text) × (slice_range text from (from + length bytes) ≡ bytes)
