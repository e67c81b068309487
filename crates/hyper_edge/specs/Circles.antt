-- Which requests an edge with a name refuses since they go in a circle.
use Rattle.std.specs.Prelude.{ℕ, Bool, ◌||◌, nat_lt, List}
use Rattle.page_http.specs.Passed.{has_passed}
use Rattle.page_http.specs.declared.field.Field.{Field}

-- those that have passed it, and those whose list of the edges that they have passed has more than 1,024 bytes
abbrev pub is_circle : List ℕ → List Field → ℕ → Bool
is_circle name fields bytes = has_passed name fields || nat_lt 1024 bytes
