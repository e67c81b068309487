-- How the program ends, by how the run of the case ends.
use Rattle.std.specs.Arc.{arc_value}
use Rattle.std.proofs.Common.{◌≢◌, ℕ, true, List, Option, option_map, Result, Ok, Err, IfOk, IfErr, IsErrOf, refl, inl, inr}
use Rattle.std.specs.Io.KnownBytes.{Keeps}
use Rattle.clap.specs.Words.{Text}
use Rattle.edge_case.specs.declared.ending.CaseEnd.{CaseEnd}
use Rattle.edge_case.specs.declared.ending.CaseEnd.TheVariants.{PagePrinted, FaultPrinted}
use Rattle.edge_case.specs.declared.ending.CaseFault.{CaseFault}
use Rattle.edge_case.specs.declared.ending.CaseFault.TheVariants.{BadCase, NoMemory, Read, Write}
use Rattle.edge_case.specs.Bytes.{IsInput}
use Rattle.edge_case.specs.declared.runner.Ran.{Ran as RanCase}
use Rattle.edge_case.specs.FailedLeg.{FailsAtLeg}
use Rattle.edge_case.specs.Run.{IsNoCase, Prints, PrintsPart}
use Rattle.edge_commands.specs.CommandLine.{AsksWhy}
use Rattle.edge_main.specs.Program.{AsksLevels, Does, explained_by, explains_by}

-- what came of words that ask why, by how the run of their case ended
pub does_explained : (words : List Text) (levels : ℕ) (input before after : Option (List ℕ)) (ended : Result RanCase CaseFault) → IfOk ended (λ ran. Prints levels input before after ran.end)
    → IfOk ended (λ ran. IsInput input ran.text.items) → IfOk ended (λ ran. FailsAtLeg levels input (option_map arc_value ran.failed_leg)) → (IsErrOf ended BadCase → IsNoCase input) → IfErr ended (λ e. e ≢ Write → Keeps before after)
    → (IsErrOf ended Write → PrintsPart levels input before after) → AsksLevels words levels → AsksWhy words true → Does words input before after (explained_by ended)
does_explained words levels input before after (Ok ran) printed whole leg bad nothing part asks why = by ran.end printed
  where
    by : (end : CaseEnd) → Prints levels input before after end → Does words input before after (explains_by ran end)
    by FaultPrinted printed = record { printed = (levels, asks, printed); asks = why; whole = whole; failed = (levels, asks, leg) }
    by PagePrinted printed = ((levels, asks, printed), tt)
does_explained words levels input before after (Err BadCase) printed whole leg bad nothing part asks why = ((bad refl, nothing (λ e. absurd (cc))), tt)
does_explained words levels input before after (Err NoMemory) printed whole leg bad nothing part asks why = (nothing (λ e. absurd (cc)), tt)
does_explained words levels input before after (Err Read) printed whole leg bad nothing part asks why = (inl (nothing (λ e. absurd (cc))), tt)
does_explained words levels input before after (Err Write) printed whole leg bad nothing part asks why = (inr (levels, asks, part refl), tt)
