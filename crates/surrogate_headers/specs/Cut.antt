-- How the value of a header is cut into parts.
use Rattle.std.specs.Prelude.{ℕ, Bool, true, false, not, ◌==◌, List, [], ◌∷◌, Option, Some, None, if◌then◌else◌}
use Rattle.std.specs.List.{onto_first}
use Rattle.std.specs.Borrow.{Bor}
use Rattle.std.specs.Str.{byte}
use Rattle.surrogate_headers.specs.declared.parts.Parts.{Parts}

-- the parts between the commas; inside quotes, which may never be closed, a comma doesn't cut
abbrev pub parts_from : Bool → List ℕ → List (List ℕ)
parts_from quoted [] = [] ∷ []
parts_from true (b ∷ bs) = onto_first b (parts_from (not (b == byte "\"")) bs)
parts_from false (b ∷ bs) = if b == byte "," then [] ∷ parts_from false bs else onto_first b (parts_from (b == byte "\"") bs)

-- the parts of a value: it is cut at each comma outside quotes
unfoldable pub parts_of : List ℕ → List (List ℕ)
parts_of value = parts_from false value

-- the parts that are still to come
abbrev pub parts_after : Option (Bor (List ℕ)) → List (List ℕ)
parts_after None = []
parts_after (Some rest) = parts_of rest.now

abbrev pub parts_left : Parts → List (List ℕ)
parts_left it = parts_after it.rest
