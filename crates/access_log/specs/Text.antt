-- What the log is made of.
use Rattle.std.specs.Prelude.{◌≡◌, ℕ, ◌&&◌, ◌||◌, ◌==◌, Bool, true, nat_le, nat_lt, List, ◌++◌, codes}
use Rattle.std.specs.List.{list_all}
use Rattle.std.specs.Str.{byte}

-- a space, or a character that ASCII prints
abbrev pub is_printable : ℕ → Bool
is_printable b = nat_le 32 b && nat_lt b 127

abbrev pub IsPrintable : List ℕ → Type 0
IsPrintable text = list_all is_printable text ≡ true

-- a line: printable ASCII, and the line feed that ends it
abbrev pub IsLine : List ℕ → Type 0
IsLine text = (front : List ℕ) × IsPrintable front × (text ≡ front ++ codes "\n")

abbrev pub is_log_byte : ℕ → Bool
is_log_byte b = is_printable b || b == byte "\n"

-- the bytes of lines, of which the first and the last may be cut: printable ASCII and line feeds
abbrev pub IsLogText : List ℕ → Type 0
IsLogText text = list_all is_log_byte text ≡ true
