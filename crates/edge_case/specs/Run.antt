-- Running a case: what is read, and what is written for it.
use Rattle.std.specs.Prelude.{◌≡◌, ℕ, List, Option, Result, IfOk, IsErrOf, IfSome}
use Rattle.std.specs.Io.KnownBytes.{Appends}
use Rattle.edge_types.specs.Outcome.{Shown}
use Rattle.esi_meaning.specs.Meaning.{outcome}
use Rattle.edge_case.specs.declared.case_text.Case.{Case}
use Rattle.edge_case.specs.declared.case_text.TheConstants.{MAX_CASE}
use Rattle.edge_case.specs.declared.ending.CaseEnd.{CaseEnd}
use Rattle.edge_case.specs.declared.ending.CaseFault.{CaseFault}
use Rattle.edge_case.specs.declared.ending.CaseFault.TheVariants as fault
use Rattle.edge_case.specs.Case.{IsCaseText}
use Rattle.edge_case.specs.Bytes.{IsInput, IsReadThrough, AppendsPart}
use Rattle.edge_case.specs.Printed.{printed, end_of}

-- the outcome of a case
abbrev pub outcome_of : Case → ℕ → Shown
outcome_of case levels = outcome case.request case.table levels case.url

-- the whole input is a text of this case
pub record Reads (known : Option (List ℕ)) (case : Case) : Type 0 where
  pub input : List ℕ
  pub whole : IsInput known input
  pub text : IsCaseText input case

-- the input, if the reader reveals it, isn't a case text
abbrev pub IsNoCase : Option (List ℕ) → Type 0
IsNoCase known = IfSome known (λ input. (case : Case) → IsCaseText input case → ⊥)

-- before anything is said of the input's case, as what is printed or that it is none, the input was read to its end, or
-- one byte past the limit
pub record ReadsBefore {A : Type 0} (result : Result A CaseFault) (before after : Option (List ℕ)) : Type 0 where
  pub run : IfOk result (λ _. IsReadThrough MAX_CASE before after)
  pub bad : IsErrOf result fault.BadCase → IsReadThrough MAX_CASE before after

-- the printed form of the outcome of the input's case was written, and nothing else
pub record Prints (levels : ℕ) (known before after : Option (List ℕ)) (end : CaseEnd) : Type 0 where
  pub case : Case
  pub read : Reads known case
  pub ended : end ≡ end_of (outcome_of case levels)
  pub written : Appends before after (printed (outcome_of case levels))

-- only a first part of it was written
pub record PrintsPart (levels : ℕ) (known before after : Option (List ℕ)) : Type 0 where
  pub case : Case
  pub read : Reads known case
  pub written : AppendsPart before after (printed (outcome_of case levels))
