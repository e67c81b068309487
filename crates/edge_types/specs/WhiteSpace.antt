-- White space.
use Rattle.std.specs.Prelude.{ℕ, Bool, ◌||◌, ◌==◌, List, drop}
use Rattle.std.specs.List.{prefix_len}
use Rattle.std.specs.Str.{byte}

-- the bytes space, tab, carriage return and line feed
abbrev pub is_ws : ℕ → Bool
is_ws b = b == byte " " || (b == byte "\t" || (b == byte "\r" || b == byte "\n"))

-- how many bytes of white space are at the front
abbrev pub ws_len : List ℕ → ℕ
ws_len text = prefix_len is_ws text

-- what follows the white space at the front
abbrev pub after_ws : List ℕ → List ℕ
after_ws text = drop (ws_len text) text
