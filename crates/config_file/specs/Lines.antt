-- What one line of a configuration file denotes. Each line is read as a TOML text by itself, by the grammar of `toml`.
use Rattle.std.specs.Prelude.{ℕ, Bool, true, false, ◌||◌, ◌&&◌, ◌==◌, bytes_eq, List, [], ◌∷◌, ◌++◌, map, codes, Option, Some, None, Result, Ok, Err, is_some, option_and_then, string_bytes, if◌then◌else◌}
use Rattle.std.specs.Borrow.{Bor}
use Rattle.std.specs.Fmt.{signed_decimal}
use Rattle.std.specs.List.{list_any}
use Rattle.std.specs.Option.{option_map_or}
use Rattle.std.specs.Str.{byte}
use Rattle.edge_types.specs.Blanks.{skip_blanks}
use Rattle.toml.specs.Data.{Data, Items, no_items, item, Members, no_members, member, as_array, as_bool, as_integer, as_str, as_table}
use Rattle.config_file.specs.declared.fault.Reason.{Reason}
use Rattle.config_file.specs.declared.fault.Reason.TheVariants as reason
use Rattle.config_file.specs.declared.line.Line.{Line}
use Rattle.config_file.specs.declared.line.Line.TheVariants as line
use Rattle.config_file.specs.declared.line.LineFault.{LineFault}
use Rattle.config_file.specs.declared.naming.OptionNames.{OptionNames}

abbrev pub Text : Type 0
Text = List ℕ

-- ---- what a line denotes

-- nothing; that the rows below it are origins; or that an option, `--NAME` or `--origin=AUTHORITY`, has the values in these
-- words of the command line, or is a flag that isn't set, without a word
pub data Said : Type 0 where
  nothing : Said
  origins : Said
  setting : Text → List Text → Said

-- why a line is refused, by the name that stands there
pub record Refused : Type 0 where
  pub name : Text
  pub reason : Reason

abbrev pub shown_said : Line → Said
shown_said line.Nothing = nothing
shown_said line.Origins = origins
shown_said (line.Setting subject words) = setting (string_bytes subject) (map string_bytes words.items)

abbrev pub shown : Result Line Reason → Result Said Reason
shown (Ok said) = Ok (shown_said said)
shown (Err why) = Err why

abbrev pub shown_line : Result Line LineFault → Result Said Refused
shown_line (Ok said) = Ok (shown_said said)
shown_line (Err fault) = Err (record { name = string_bytes fault.name; reason = fault.reason })

-- ---- names

-- an option that has no place in a file
abbrev pub is_of_line : Text → Bool
is_of_line name = bytes_eq name (codes "config") || bytes_eq name (codes "print-config")

-- the option that is written as rows of `[origins]`
abbrev pub is_origin : Text → Bool
is_origin name = bytes_eq name (codes "origin")

abbrev pub is_among : List (Bor Text) → Text → Bool
is_among names name = list_any (λ known. bytes_eq known.now name) names

-- ---- values

-- the word of an option with the value of this text, `--NAME=TEXT`
abbrev pub word_of : Text → Text → Text
word_of subject text = (subject ++ codes "=") ++ text

-- an option with this value alone
abbrev pub set : Text → Text → Result Said Reason
set subject text = Ok (setting subject (word_of subject text ∷ []))

-- a string is taken as it is, an integer as its digits
abbrev pub valued : Text → Data → Result Said Reason
valued subject value =
    option_map_or (set subject) (as_str value)
    (option_map_or (λ number. set subject (signed_decimal number)) (as_integer value)
    (Err (if is_some (as_table value) then reason.Table else reason.NoWord)))

-- the words of a list's elements, behind those of the elements before them; none if an element is no string
abbrev pub words_behind : Text → List Text → Items → Option (List Text)
words_behind subject words no_items = Some words
words_behind subject words (item value rest) = option_and_then (λ text. words_behind subject (words ++ word_of subject text ∷ []) rest) (as_str value)

abbrev pub words_of : Text → Items → Option (List Text)
words_of subject elements = words_behind subject [] elements

-- an option with these values, in order
abbrev pub listed : Text → Items → Result Said Reason
listed subject elements = option_map_or (λ words. Ok (setting subject words)) (words_of subject elements) (Err reason.NoList)

-- an option that may be given more than once: a list of strings, or a value alone
abbrev pub repeated : Text → Data → Result Said Reason
repeated subject value = option_map_or (listed subject) (as_array value) (valued subject value)

-- a flag: the word `--NAME`, or none
abbrev pub flagged : Text → Data → Result Said Reason
flagged subject value =
    option_map_or (λ on. Ok (setting subject (if on then subject ∷ [] else []))) (as_bool value) (Err reason.NoFlag)

-- ---- rows and headers

abbrev pub option_of : OptionNames → Text → Data → Result Said Reason
option_of names name value =
    if is_of_line name then Err reason.OfLine
    else (if is_origin name || bytes_eq name (codes "origins") then Err reason.Origin
    else (if is_among names.flags.items name then flagged (codes "--" ++ name) value
    else (if is_among names.valued.items name then valued (codes "--" ++ name) value
    else (if is_among names.repeated.items name then repeated (codes "--" ++ name) value
    else Err reason.Unknown))))

abbrev pub origin_of : Text → Data → Result Said Reason
origin_of name value = valued (codes "--origin=" ++ name) value

abbrev has_no_rows : Option Members → Bool
has_no_rows (Some no_members) = true
has_no_rows _ = false

-- a table without rows
abbrev pub is_empty : Data → Bool
is_empty value = has_no_rows (as_table value)

abbrev pub header_of : Bool → Text → Data → Result Said Reason
header_of among_origins name value =
    if bytes_eq name (codes "origins") && is_empty value then (if among_origins then Err reason.Twice else Ok origins)
    else Err reason.Header

-- ---- the line

-- the line begins a table: its first byte that isn't a blank is a bracket
abbrev begins_table : Text → Bool
begins_table [] = false
begins_table (b ∷ bs) = b == byte "["

abbrev pub is_header : Text → Bool
is_header text = begins_table (skip_blanks text)

abbrev of_row : OptionNames → Bool → Text → Text → Data → Result Said Reason
of_row names among_origins text name value =
    if is_header text then header_of among_origins name value
    else (if among_origins then origin_of name value
    else option_of names name value)

abbrev named : Text → Result Said Reason → Result Said Refused
named name (Ok said) = Ok said
named name (Err why) = Err (record { name = name; reason = why })

-- the line of this text, which TOML reads as these members
abbrev pub line_of : OptionNames → Bool → Text → Option Members → Result Said Refused
line_of names among_origins text None = Err (record { name = []; reason = reason.Form })
line_of names among_origins text (Some no_members) = Ok nothing
line_of names among_origins text (Some (member name value rest)) = named name (of_row names among_origins text name value)
