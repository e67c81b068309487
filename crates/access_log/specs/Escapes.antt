-- Texts of clients between the quotes of a line.
use Rattle.std.specs.Prelude.{ℕ, ◌+◌, ◌-◌, ◌/◌, ◌%◌, Bool, not, nat_lt, ◌&&◌, ◌==◌, List, [], ◌∷◌, ◌++◌, codes, if◌then◌else◌}
use Rattle.std.specs.List.{flat_map}
use Rattle.std.specs.Str.{byte}
use Rattle.access_log.specs.Text.{is_printable}

-- printable ASCII, but no quote and no backslash
abbrev pub is_plain : ℕ → Bool
is_plain b = is_printable b && not (b == byte "\"") && not (b == byte "\\")

-- a digit of base 16, in upper case
abbrev pub hex_digit : ℕ → ℕ
hex_digit n = if nat_lt n 10 then byte "0" + n else byte "A" + (n - 10)

-- a byte as it is, or behind a prefix in two digits of base 16
abbrev pub escaped_byte : List ℕ → ℕ → List ℕ
escaped_byte prefix b = if is_plain b then b ∷ [] else prefix ++ hex_digit (b / 16) ∷ hex_digit (b % 16) ∷ []

abbrev pub escaped : List ℕ → List ℕ → List ℕ
escaped prefix text = flat_map (escaped_byte prefix) text

-- as nginx writes it: `\x22` for a quote
abbrev pub log_escaped : List ℕ → List ℕ
log_escaped text = escaped (codes "\\x") text

-- within a string of JSON (RFC 8259, section 7): `\u0022` for a quote, and any other byte as the character of Latin-1
abbrev pub json_escaped : List ℕ → List ℕ
json_escaped text = escaped (codes "\\u00") text
