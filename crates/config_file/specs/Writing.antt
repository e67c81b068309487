-- A configuration file of options that hold.
use Rattle.std.specs.Prelude.{ℕ, Bool, false, nat_le, ◌||◌, ◌&&◌, ◌==◌, bytes_eq, List, [], ◌∷◌, ◌++◌, length, codes, if◌then◌else◌}
use Rattle.std.specs.List.{after_first, before_first, flat_map, list_all}
use Rattle.std.specs.Str.{byte}
use Rattle.toml_writer.specs.Text.{string_text}
use Rattle.config_file.specs.Lines.{Text}

abbrev pub is_digit : ℕ → Bool
is_digit b = nat_le (byte "0") b && nat_le b (byte "9")

abbrev pub begins_number : Text → Bool
begins_number [] = false
begins_number (b ∷ bs) = nat_le (byte "1") b && nat_le b (byte "9")

-- an integer as TOML writes it, of at most 18 digits
abbrev pub is_number : Text → Bool
is_number word = bytes_eq word (codes "0") || begins_number word && nat_le (length word) 18 && list_all is_digit word

-- a word as TOML writes it
abbrev pub value_text : Bool → Text → Text
value_text is_flag word = if is_flag || is_number word then word else string_text word

-- the line of an option: its name, and its word, bare where it is a flag's or a number
abbrev pub line_text : Text → Bool → Text → Text
line_text name is_flag word = name ++ codes " = " ++ value_text is_flag word ++ codes "\n"

-- strings with commas between, behind another, and by themselves
abbrev pub behind_text : List Text → Text
behind_text words = flat_map (λ word. codes ", " ++ string_text word) words

abbrev pub elements_text : List Text → Text
elements_text [] = []
elements_text (word ∷ words) = string_text word ++ behind_text words

-- the line of an option that may be given more than once: its name, and the list of its words
abbrev pub list_text : Text → List Text → Text
list_text name words = name ++ codes " = [" ++ elements_text words ++ codes "]\n"

-- the row of an origin, by the word of its option
abbrev pub row_text : Text → Text
row_text word =
    string_text (before_first (λ b. b == byte "=") word) ++ codes " = " ++ string_text (after_first (λ b. b == byte "=") word) ++ codes "\n"
