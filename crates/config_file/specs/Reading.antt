-- What the lines of a configuration file set, read one after another.
use Rattle.std.specs.Prelude.{◌≡◌, ◌≤◌, ℕ, zero, suc, Bool, true, false, bytes_eq, map, List, [], ◌∷◌, ◌++◌, length, get_or, Result, Ok, Err, string_bytes, if◌then◌else◌}
use Rattle.std.specs.List.{list_any}
use Rattle.toml.specs.Parse.{parse_document}
use Rattle.config_file.specs.Lines.{Text, Said, nothing, origins, setting, Refused, line_of}
use Rattle.config_file.specs.declared.fault.Reason.{Reason}
use Rattle.config_file.specs.declared.fault.Reason.TheVariants as reason
use Rattle.config_file.specs.declared.fault.ConfigFault.{ConfigFault}
use Rattle.config_file.specs.declared.naming.OptionNames.{OptionNames}
use Rattle.config_file.specs.declared.reading.Reading.{Reading}
use Rattle.config_file.specs.declared.reading.Setting.{Setting}

-- what a line sets
pub record Row : Type 0 where
  pub line : ℕ
  pub subject : Text
  pub words : List Text

-- a file as far as it has been read: whether further rows are origins, and what the lines so far set
pub record File : Type 0 where
  pub among_origins : Bool
  pub rows : List Row

-- the line that is refused, the name that stands there, and the reason
pub record Fault : Type 0 where
  pub line : ℕ
  pub name : Text
  pub reason : Reason

abbrev pub shown_setting : Setting → Row
shown_setting s = record { line = s.line; subject = string_bytes s.subject; words = map string_bytes s.words.items }

abbrev pub shown_file : Reading → File
shown_file file = record { among_origins = file.among_origins; rows = map shown_setting file.settings.items }

abbrev pub shown_fault : ConfigFault → Fault
shown_fault fault = record { line = fault.line; name = string_bytes fault.name; reason = fault.reason }

-- one of the settings is of this subject
abbrev pub is_set : Text → List Setting → Bool
is_set subject settings = list_any (λ s. bytes_eq (string_bytes s.subject) subject) settings

abbrev pub has : Text → List Row → Bool
has subject rows = list_any (λ row. bytes_eq row.subject subject) rows

-- ---- one more line

-- a subject is set once
abbrev pub with_setting : ℕ → Text → List Text → File → Result File Fault
with_setting number subject words file =
    if has subject file.rows then Err (record { line = number; name = subject; reason = reason.Twice })
    else Ok (record file { rows = file.rows ++ (record { line = number; subject = subject; words = words }) ∷ [] })

abbrev with_said : ℕ → File → Result Said Refused → Result File Fault
with_said number file (Ok nothing) = Ok file
with_said number file (Ok origins) = Ok (record file { among_origins = true })
with_said number file (Ok (setting subject words)) = with_setting number subject words file
with_said number file (Err refused) = Err (record { line = number; name = refused.name; reason = refused.reason })

abbrev pub with_line : OptionNames → ℕ → Text → File → Result File Fault
with_line names number text file = with_said number file (line_of names file.among_origins text (parse_document text))

-- ---- all lines

abbrev empty : File
empty = record { among_origins = false; rows = [] }

abbrev then_line : OptionNames → ℕ → Text → Result File Fault → Result File Fault
then_line names number text (Ok file) = with_line names number text file
then_line names number text (Err fault) = Err fault

-- the file after its first lines
abbrev pub after : OptionNames → List Text → ℕ → Result File Fault
after names lines zero = Ok empty
after names lines (suc n) = then_line names (suc n) (get_or lines n []) (after names lines n)

-- the lines set this
abbrev pub AreSettings : OptionNames → List Text → List Setting → Type 0
AreSettings names lines settings = (file : File) × (after names lines (length lines) ≡ Ok file) × (file.rows ≡ map shown_setting settings)

-- this is wrong with one of the lines, and none before it is refused
abbrev pub IsFault : OptionNames → List Text → ConfigFault → Type 0
IsFault names lines fault = (n : ℕ) × (n ≤ length lines) × (after names lines n ≡ Err (shown_fault fault))
