-- Lines and columns of places.
use Rattle.std.specs.Prelude.{ℕ, ◌+◌, ◌==◌, List, [], ◌∷◌, take, length, min, if◌then◌else◌}
use Rattle.std.specs.Str.{byte}
use Rattle.template_check.specs.declared.position.Position.{Position}

-- the position after one more byte: a line feed ends its line
abbrev pub behind : ℕ → Position → Position
behind b position =
    if b == byte "\n" then record { line = position.line + 1; column = 1 }
    else record { line = position.line; column = position.column + 1 }

-- the position after these bytes
abbrev pub behind_all : List ℕ → Position → Position
behind_all [] position = position
behind_all (b ∷ bs) position = behind_all bs (behind b position)

-- the position of a place
unfoldable pub position_of : List ℕ → ℕ → Position
position_of text place = behind_all (take (min place (length text)) text) (record { line = 1; column = 1 })
