-- The run of a case, from what was read to what was written.
use Rattle.std.proofs.Common.{◌≡◌, ℕ, ◌<◌, ◌≤◌, List, length, subst, Option, Some, None, arith, inl, inr}
use Rattle.std.proofs.lemmas.Bool.{cases_lt}
use Rattle.std.specs.Io.KnownBytes.{Appends}
use Rattle.edge_case.specs.declared.case_text.Case.{Case}
use Rattle.edge_case.specs.declared.case_text.TheConstants.{MAX_CASE}
use Rattle.edge_case.specs.Case.{IsCaseText}
use Rattle.edge_case.specs.declared.ending.CaseEnd.{CaseEnd}
use Rattle.edge_case.specs.Bytes.{IsInput, IsLonger}
use Rattle.edge_case.specs.Printed.{printed, end_of}
use Rattle.edge_case.specs.Run.{outcome_of, Reads, IsNoCase, Prints}

-- what was read is no case text, so the input is none
pub no_case : (known : Option (List ℕ)) (len : ℕ) (text : List ℕ) → (len ≤ MAX_CASE → IsInput known text) → (MAX_CASE < len → IsLonger MAX_CASE known)
    → ((case : Case) → IsCaseText text case → ⊥) → IsNoCase known
no_case None len text whole longer none = tt
no_case (Some bytes) len text whole longer none = λ case is.
    elim (cases_lt MAX_CASE len) [
      | inl long ↦ let more : MAX_CASE < length bytes = longer long in let short = is.short in omega arith
      | inr short ↦ none case (subst (λ (t : List ℕ). IsCaseText t case) (whole short) is)
    ]

-- what was read was evaluated, and its outcome printed
pub prints : (levels : ℕ) (known before after : Option (List ℕ)) (end : CaseEnd) (case : Case) → Reads known case → end ≡ end_of (outcome_of case levels) → Appends before after (printed (outcome_of case levels))
    → Prints levels known before after end
prints levels known before after end case read ended written = record { case = case; read = read; ended = ended; written = written }
