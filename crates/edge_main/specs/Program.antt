-- What is true at each way in which the program ends, over any reader and writer.
use Rattle.std.specs.Prelude.{◌≡◌, ◌⊎◌, ℕ, true, false, List, Option, option_map, Result, Ok, Err}
use Rattle.std.specs.Arc.{arc_value}
use Rattle.std.specs.Io.KnownBytes.{Keeps}
use Rattle.clap.specs.Words.{Text}
use Rattle.edge_types.specs.Answered.{Answered}
use Rattle.edge_case.specs.declared.ending.CaseEnd.{CaseEnd}
use Rattle.edge_case.specs.declared.ending.CaseEnd.TheVariants.{PagePrinted, FaultPrinted}
use Rattle.edge_case.specs.declared.ending.CaseFault.{CaseFault}
use Rattle.edge_case.specs.declared.runner.Ran.{Ran as RanCase}
use Rattle.edge_case.specs.Bytes.{IsInput}
use Rattle.edge_case.specs.FailedLeg.{FailsAtLeg}
use Rattle.edge_case.specs.Run.{IsNoCase, Prints, PrintsPart}
use Rattle.edge_commands.specs.Status.{status_of}
use Rattle.edge_commands.specs.declared.status.Status.{Status}
use Rattle.edge_commands.specs.declared.status.Status.TheVariants.{Page, PageFault, Served, Checked, FaultFound, Usage, BadOrder, BadOption, NotText, BadCase, NoMemory, InputOutput, AddressInUse, AddressDenied, UnknownHost}
use Rattle.plan_runner.specs.declared.events.Event.{Event}
use Rattle.edge_setup.specs.declared.check.Checking.{Checking}
use Rattle.edge_setup.specs.declared.setup.Setup.{Setup}
use Rattle.edge_parts.specs.declared.server_options.ServerOptions.{ServerOptions}
use Rattle.edge_main.specs.declared.program.Done.{Done}
use Rattle.edge_main.specs.declared.program.Done.TheVariants.{Ran, Explains, Serves, Checks}
use Rattle.edge_commands.specs.CommandLine.{AsksCase, AsksCheck, AsksServe, AsksWhy}
use Rattle.edge_parts.specs.ServerOptions.{AreAskedBy}

-- the words ask for a case with this many levels, whatever its events and its slots ahead are
abbrev pub AsksLevels : List Text → ℕ → Type 0
AsksLevels words levels = (order : List Event) × (ahead : ℕ) × AsksCase words order ahead levels

-- nothing was written, and the words ask this of a server
pub record AsksToServe (words : List Text) (before after : Option (List ℕ)) (options : ServerOptions) : Type 0 where
  pub setup : Setup
  pub asks : AsksServe words setup
  pub options_are : AreAskedBy setup options
  pub untouched : after ≡ before

-- nothing was written, and the words ask to check these files
pub record AsksToCheck (words : List Text) (before after : Option (List ℕ)) (checking : Checking) : Type 0 where
  pub asks : AsksCheck words checking
  pub untouched : after ≡ before

-- what was read and written, by the words of the command line, if the program ends with this status
abbrev pub Ends : List Text → Option (List ℕ) → Option (List ℕ) → Option (List ℕ) → Status → Type 0
Ends words input before after Page = (levels : ℕ) × AsksLevels words levels × Prints levels input before after PagePrinted
Ends words input before after PageFault = (levels : ℕ) × AsksLevels words levels × Prints levels input before after FaultPrinted
Ends words input before after BadCase = IsNoCase input × Keeps before after
Ends words input before after NoMemory = Keeps before after
Ends words input before after InputOutput = Keeps before after ⊎ ((levels : ℕ) × AsksLevels words levels × PrintsPart levels input before after)
Ends words input before after Served = ⊥
Ends words input before after Checked = ⊥
Ends words input before after FaultFound = ⊥
Ends words input before after Usage = ⊥
Ends words input before after BadOrder = ⊥
Ends words input before after (BadOption option) = ⊥
Ends words input before after NotText = ⊥
Ends words input before after AddressInUse = ⊥
Ends words input before after AddressDenied = ⊥
Ends words input before after UnknownHost = ⊥

-- a page's fault was printed, and the words ask for its reason, in this text
pub record AsksWhyOf (words : List Text) (input before after : Option (List ℕ)) (text : List ℕ) (leg : Option Answered) : Type 0 where
  pub printed : Ends words input before after PageFault
  pub asks : AsksWhy words true
  pub whole : IsInput input text
  -- the answer of the leg at which an include failed the page
  pub failed : (levels : ℕ) × AsksLevels words levels × FailsAtLeg levels input leg

-- if a page's fault is all that was reported, nobody asked for its reason
abbrev pub IsUnasked : List Text → Status → Type 0
IsUnasked words PageFault = AsksWhy words false
IsUnasked words _ = Unit {0}

-- what came of words that ask why, by how the run of their case ended: the run, where the page has a fault
abbrev pub explains_by : RanCase → CaseEnd → Done
explains_by ran FaultPrinted = Explains ran
explains_by ran PagePrinted = Ran Page

abbrev pub explained_by : Result RanCase CaseFault → Done
explained_by (Ok ran) = explains_by ran ran.end
explained_by (Err fault) = Ran (status_of (Err fault))

-- what was read and written, by what the words led to
abbrev pub Does : List Text → Option (List ℕ) → Option (List ℕ) → Option (List ℕ) → Done → Type 0
Does words input before after (Ran status) = Ends words input before after status × IsUnasked words status
Does words input before after (Explains ran) = AsksWhyOf words input before after ran.text.items (option_map arc_value ran.failed_leg)
Does words input before after (Serves options) = AsksToServe words before after options
Does words input before after (Checks checking) = AsksToCheck words before after checking
