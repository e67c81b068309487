-- How the program ends where its words are refused, and after serving.
use Rattle.std.specs.Prelude.{◌≡◌, ◌⊎◌, Result, Ok, Err}
use Rattle.clap.specs.declared.error.kind.ErrorKind.{ErrorKind}
use Rattle.clap.specs.declared.error.kind.ErrorKind.TheVariants.{DisplayHelp, DisplayVersion, OutOfMemory}
use Rattle.clap.specs.Words.{kind_of}
use Rattle.edge_setup.specs.declared.number.Number.TheVariants as number
use Rattle.edge_setup.specs.declared.setup.Named.TheVariants as named
use Rattle.edge_connections.specs.declared.roster.ServeEnd.{ServeEnd}
use Rattle.edge_connections.specs.declared.roster.ServeEnd.TheVariants as end
use Rattle.edge_commands.specs.declared.command.Refusal.{Refusal}
use Rattle.edge_commands.specs.declared.command.Refusal.TheVariants as refusal
use Rattle.edge_commands.specs.declared.status.Status.{Status}
use Rattle.edge_commands.specs.declared.status.Status.TheVariants.{Page, Served, Usage, BadOrder, BadOption, NoMemory, InputOutput}

-- how it ends after serving
abbrev pub serving_status : Result ServeEnd Status → Status
serving_status (Ok end.Served) = Served
serving_status (Ok end.AcceptsFailed) = InputOutput
serving_status (Err status) = status

-- how it may end if `clap` has something to say about the command line
abbrev pub IsEndOf : ErrorKind → Status → Type 0
IsEndOf OutOfMemory status = status ≡ NoMemory
IsEndOf DisplayHelp status = (status ≡ Page) ⊎ (status ≡ InputOutput)
IsEndOf DisplayVersion status = (status ≡ Page) ⊎ (status ≡ InputOutput)
IsEndOf _ status = status ≡ Usage

-- how it may end if the command line is refused
abbrev pub IsRefusedAs : Refusal → Status → Type 0
IsRefusedAs (refusal.Words error) status = IsEndOf (kind_of error) status
IsRefusedAs refusal.Order status = status ≡ BadOrder
IsRefusedAs refusal.Ahead status = status ≡ BadOption (named.Number number.Ahead)
IsRefusedAs refusal.Levels status = status ≡ BadOption (named.Number number.Levels)
IsRefusedAs (refusal.Serve option) status = status ≡ BadOption option
IsRefusedAs refusal.NoMemory status = status ≡ NoMemory
