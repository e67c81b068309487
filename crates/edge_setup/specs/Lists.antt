-- Lists in one text, with commas between their elements.
use Rattle.std.specs.Prelude.{ℕ, Bool, ◌==◌, List, map}
use Rattle.std.specs.List.{slice_split}
use Rattle.std.specs.Str.{byte}
use Rattle.edge_types.specs.Blanks.{trimmed}

-- what stands between two elements
abbrev pub is_comma : ℕ → Bool
is_comma b = b == byte ","

-- the elements of a text, without the blanks around each
abbrev pub members : List ℕ → List (List ℕ)
members text = map trimmed (slice_split is_comma text)
