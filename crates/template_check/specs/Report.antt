-- What is reported of a text: how many faults and warnings, and the line of each.
use Rattle.std.specs.Prelude.{ℕ, List, [], ◌∷◌, ◌++◌, length, codes, Option, Some, None}
use Rattle.std.specs.Fmt.{decimal}
use Rattle.template_check.specs.declared.checker.Fault.{Fault}
use Rattle.template_check.specs.declared.position.Position.{Position}
use Rattle.template_check.specs.declared.reporting.Told.{Told}
use Rattle.template_check.specs.declared.warned.Warned.{Warned}
use Rattle.template_check.specs.declared.warning.Warning.{Warning}
use Rattle.template_check.specs.Checking.{fault_of}
use Rattle.template_check.specs.Messages.{◌⊕◌, message_of, warning_words}
use Rattle.template_check.specs.Positions.{position_of}
use Rattle.template_check.specs.Warned.{warnings_of}

-- at most one fault
abbrev pub fault_count : Option Fault → ℕ
fault_count None = 0
fault_count (Some fault) = 1

abbrev pub told_of : List ℕ → Told
told_of text = record { errors = fault_count (fault_of text); warnings = length (warnings_of text) }

-- the line of a text's fault, after the text's name
abbrev pub fault_lines : List ℕ → List ℕ → Option Fault → List ℕ
fault_lines name text None = []
fault_lines name text (Some fault) = name ⊕ codes ":" ⊕ message_of text fault ⊕ codes "\n"

-- the line of a warning
abbrev pub warning_at : List ℕ → Position → Warning → List ℕ
warning_at name position warning =
    name ⊕ codes ":" ⊕ decimal position.line ⊕ codes ":" ⊕ decimal position.column ⊕ codes ": warning: " ⊕ warning_words warning ⊕ codes "\n"

-- those of these warnings, in their order
unfoldable pub warning_lines : List ℕ → List ℕ → List Warned → List ℕ
warning_lines name text [] = []
warning_lines name text (w ∷ ws) = warning_at name (position_of text w.place) w.warning ++ warning_lines name text ws

-- all that is printed of a text with this name
abbrev pub reported : List ℕ → List ℕ → List ℕ
reported name text = fault_lines name text (fault_of text) ++ warning_lines name text (warnings_of text)
