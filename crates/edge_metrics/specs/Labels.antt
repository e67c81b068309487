-- Texts between the quotes of a label (Prometheus, "Exposition formats", "Text-based format", "Line format").
use Rattle.std.specs.Prelude.{ℕ, ◌==◌, List, [], ◌∷◌, codes, if◌then◌else◌}
use Rattle.std.specs.List.{flat_map}
use Rattle.std.specs.Str.{byte}

-- a backslash stands before another one and before a quote, and `\n` stands for the end of a line
abbrev pub escaped_byte : ℕ → List ℕ
escaped_byte b =
    if b == byte "\\" then codes "\\\\"
    else (if b == byte "\"" then codes "\\\""
    else (if b == byte "\n" then codes "\\n"
    else b ∷ []))

abbrev pub escaped : List ℕ → List ℕ
escaped value = flat_map escaped_byte value
