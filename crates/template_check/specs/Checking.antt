-- What is wrong with a text.
use Rattle.std.specs.Prelude.{ℕ, ◌-◌, List, drop, length, min, Option, Some, None, Result, Ok, Err}
use Rattle.esi_scanner.specs.declared.token.Token.{Token}
use Rattle.esi_scanner.specs.declared.problem.Problem.{Problem}
use Rattle.esi_scanner.specs.declared.problem.Problem.TheVariants as problem
use Rattle.esi_scanner.specs.declared.problem.Trouble.{Trouble}
use Rattle.esi_scanner.specs.Bytes.{after_ws}
use Rattle.esi_scanner.specs.Problems.{trouble_at}
use Rattle.esi_scanner.specs.Scan.{scan_of}
use Rattle.esi_tree.specs.Tree.{Elements}
use Rattle.esi_tree.specs.Reading.{tree_of}
use Rattle.template_check.specs.declared.checker.Fault.{Fault}
use Rattle.template_check.specs.declared.reason.Reason.{Reason}
use Rattle.template_check.specs.declared.reason.Reason.TheVariants.{Malformed, NoRun}
use Rattle.template_check.specs.Reasons.{reason_of}

-- for a text that has tokens the reason of the token at the place, for any other that of the tag at which it has none
abbrev pub reason_in : List ℕ → ℕ → Result (List Token) ℕ → Reason
reason_in text place (Ok tokens) = reason_of tokens place
reason_in text place (Err at) = Malformed (trouble_at text at)

-- why a text isn't a template from this place on
abbrev pub reason_at : List ℕ → ℕ → Reason
reason_at text place = reason_in text place (scan_of text)

abbrev fault_in : List ℕ → Result Elements ℕ → Option Fault
fault_in text (Ok tree) = None
fault_in text (Err place) = Some (record { place = place; reason = reason_at text place })

-- nothing if a text is a template, else the place from which on it isn't one, and why
abbrev pub fault_of : List ℕ → Option Fault
fault_of text = fault_in text (tree_of text)

-- where an author has to look: at the place of the trouble, unless that is what is missing after the tag
abbrev place_in : ℕ → Trouble → Problem → ℕ
place_in place trouble problem.TextEnds = place
place_in place trouble problem.NoRemoveEnd = place
place_in place trouble problem.NoBlockEnd = place
place_in place trouble _ = trouble.place

-- where the first byte that isn't white space is, from a place on
abbrev pub visible_from : List ℕ → ℕ → ℕ
visible_from text place = length text - length (after_ws (drop (min place (length text)) text))

-- and, for text that may not be there, after the white space before it
abbrev place_by : List ℕ → ℕ → Reason → ℕ
place_by text place (Malformed trouble) = place_in place trouble trouble.problem
place_by text place (NoRun within) = visible_from text place
place_by text place _ = place

abbrev pub shown_at : List ℕ → Fault → ℕ
shown_at text fault = place_by text fault.place fault.reason
