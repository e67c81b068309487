-- The words of a configuration file before those of a command line.
use Rattle.std.specs.Prelude.{Bool, true, false, ◌||◌, ◌&&◌, ◌==◌, bytes_eq, List, [], ◌∷◌, ◌++◌, length, map, take, drop, codes, Option, Some, None, string_bytes, if◌then◌else◌}
use Rattle.std.specs.List.{flat_map}
use Rattle.std.specs.Str.{byte}
use Rattle.config_file.specs.Lines.{Text}
use Rattle.config_file.specs.declared.reading.Setting.{Setting}

-- ---- the file's name

abbrev pub first_of : List Text → Option Text
first_of [] = None
first_of (w ∷ ws) = Some w

abbrev begins_with : Text → Text → Bool
begins_with text prefix = bytes_eq (take (length prefix) text) prefix

-- the word `--config` and the next, or `--config=` and a name in one word
abbrev pub file_in : List Text → Option Text
file_in [] = None
file_in (w ∷ ws) =
    if bytes_eq w (codes "--config") then first_of ws
    else (if begins_with w (codes "--config=") then Some (drop 9 w)
    else file_in ws)

-- the words are the program's name, `serve`, and others, which name a file
abbrev pub config_named : List Text → Option Text
config_named (program ∷ command ∷ line) = if bytes_eq command (codes "serve") then file_in line else None
config_named _ = None

-- ---- what a line gives

abbrev ends_name : Text → Bool
ends_name [] = true
ends_name (b ∷ bs) = b == byte "="

-- a word gives a subject, as `--threads` or `--threads=8` give `--threads`
abbrev pub gives : Text → Text → Bool
gives subject word = begins_with word subject && ends_name (drop (length subject) word)

abbrev next_gives : Text → List Text → Bool
next_gives authority [] = false
next_gives authority (w ∷ ws) = gives authority w

-- the word `--origin` and the next give an origin
abbrev pub gives_apart : Text → Text → List Text → Bool
gives_apart subject word after =
    begins_with subject (codes "--origin=") && bytes_eq word (codes "--origin") && next_gives (drop 9 subject) after

-- the words of a line give a subject
abbrev pub is_given : List Text → Text → Bool
is_given [] subject = false
is_given (w ∷ ws) subject = gives subject w || gives_apart subject w ws || is_given ws subject

-- ---- the words

-- the words of a setting, unless the line gives its subject
abbrev pub left_of : List Text → Setting → List Text
left_of line s = if is_given line (string_bytes s.subject) then [] else map string_bytes s.words.items

-- the program's name and `serve`, the words of the file, and those of the line
abbrev pub merged : List Text → List Setting → List Text
merged words settings = take 2 words ++ flat_map (left_of (drop 2 words)) settings ++ drop 2 words
