-- The command line of the program, by `clap`'s definitions of commands.
use Rattle.std.specs.Prelude.{◌≡◌, ◌≢◌, ◌≤◌, ℕ, Bool, true, nat_le, List, [], codes, Option, Some, None, option_and_then, option_map, if◌then◌else◌}
use Rattle.std.specs.Str.{bytes_eq}
use Rattle.clap.specs.Words.{App, Row, Text, HasKind, fault_of, first_of, new_app, subcommand_of, with_subcommand}
use Rattle.clap.specs.Simple.{on_top}
use Rattle.edge_types.specs.Decimal.{decimal_of}
use Rattle.esi_meaning.specs.declared.limits.TheConstants.{MIN_LEVELS, MAX_LEVELS}
use Rattle.esi_meaning.specs.Meaning.{AreLevels}
use Rattle.plan_runner.specs.declared.events.Event.{Event}
use Rattle.plan_runner.specs.declared.page.TheConstants.{MAX_AHEAD}
use Rattle.edge_case.specs.Order.{events_of}
use Rattle.edge_setup.specs.Case.{case_command}
use Rattle.edge_setup.specs.Check.{check_command, SaysChecking}
use Rattle.edge_setup.specs.Command.{serve_command}
use Rattle.edge_setup.specs.Rules.{is_set}
use Rattle.edge_setup.specs.Words.{IsFirstWrong, SaysSetup}
use Rattle.edge_setup.specs.declared.check.Checking.{Checking}
use Rattle.edge_setup.specs.declared.setup.Setup.{Setup}
use Rattle.edge_commands.specs.declared.command.Invocation.{Invocation}
use Rattle.edge_commands.specs.declared.command.Invocation.TheVariants.{Case, Serve, Check}
use Rattle.edge_commands.specs.declared.command.Refusal.{Refusal}
use Rattle.edge_commands.specs.declared.command.Refusal.TheVariants as refusal

-- ---- the command

-- the program, which has a version and needs a subcommand: `case`, `serve` or `check`
abbrev pub program : App
program =
    with_subcommand (with_subcommand (with_subcommand (on_top (λ s. record s { has_version = true; subcommand_required = true }) (new_app (codes "esi_edge"))) case_command.top) serve_command.top) check_command.top

-- ---- what the words mean

-- the value of an option in a subcommand's matches, if that is `case`
abbrev pub word_of : Text → Option (Text × List Row) → Option Text
word_of name met = option_and_then (λ m. if bytes_eq m.0 (codes "case") then first_of name m.1 else None) met

-- the events of `--order`; none without it
abbrev pub order_of : Option Text → Option (List Event)
order_of None = Some []
order_of (Some word) = events_of word

-- the number of `--ahead`, within its limits
abbrev pub ahead_of : Option Text → Option ℕ
ahead_of word = option_and_then (λ w. decimal_of w MAX_AHEAD) word

-- a number of levels, within its limits
abbrev pub levels_by : Option ℕ → Option ℕ
levels_by number = option_and_then (λ n. if nat_le MIN_LEVELS n then Some n else None) number

-- the number of `--levels`, within its limits
abbrev pub levels_of : Option Text → Option ℕ
levels_of word = levels_by (option_and_then (λ w. decimal_of w MAX_LEVELS) word)

-- whether `--why` is there
abbrev pub is_why_of : Option (Text × List Row) → Bool
is_why_of met = is_set (word_of (codes "why") met)

-- what the matches of a subcommand, if that is `case`, ask for
pub record AsksOf (met : Option (Text × List Row)) (order : List Event) (ahead levels : ℕ) : Type 0 where
  pub order_is : order_of (word_of (codes "order") met) ≡ Some order
  pub ahead_is : ahead_of (word_of (codes "ahead") met) ≡ Some ahead
  pub levels_are : levels_of (word_of (codes "levels") met) ≡ Some levels

-- what the rows of `serve` ask for
abbrev pub IsInvokedToServe : List Row → Invocation → Type 0
IsInvokedToServe rows (Case order ahead levels is_why) = ⊥
IsInvokedToServe rows (Serve setup) = SaysSetup rows setup
IsInvokedToServe rows (Check checking) = ⊥

-- what the rows of `check` ask for
abbrev pub IsInvokedToCheck : List Row → Invocation → Type 0
IsInvokedToCheck rows (Case order ahead levels is_why) = ⊥
IsInvokedToCheck rows (Serve setup) = ⊥
IsInvokedToCheck rows (Check checking) = SaysChecking rows checking

-- the matches are those of `serve`, and ask for this
pub record AsksServeOf (met : Option (Text × List Row)) (setup : Setup) : Type 0 where
  pub rows : List Row
  pub met_is : met ≡ Some (codes "serve", rows)
  pub says : SaysSetup rows setup

-- the matches are those of `check`, and ask for this
pub record AsksCheckOf (met : Option (Text × List Row)) (checking : Checking) : Type 0 where
  pub rows : List Row
  pub met_is : met ≡ Some (codes "check", rows)
  pub says : SaysChecking rows checking

abbrev pub IsInvokedBy : Option (Text × List Row) → Invocation → Type 0
IsInvokedBy met (Case order ahead levels is_why) = AsksOf met order.items ahead levels × (is_why_of met ≡ is_why)
IsInvokedBy met (Serve setup) = AsksServeOf met setup
IsInvokedBy met (Check checking) = AsksCheckOf met checking

-- why the rows of `serve` are refused
abbrev pub IsRefusedToServe : List Row → Refusal → Type 0
IsRefusedToServe rows (refusal.Serve option) = IsFirstWrong rows option
IsRefusedToServe rows refusal.NoMemory = Unit {0}
IsRefusedToServe rows _ = ⊥

-- and those of `check`: only out of memory
abbrev pub IsRefusedToCheck : Refusal → Type 0
IsRefusedToCheck refusal.NoMemory = Unit {0}
IsRefusedToCheck _ = ⊥

-- the name of the subcommand with these matches
abbrev pub name_of : Option (Text × List Row) → Option Text
name_of met = option_map (λ m. m.0) met

-- the matches are of no subcommand other than `case`
abbrev pub IsOfCase : Option Text → Type 0
IsOfCase name = (name ≢ Some (codes "serve")) × (name ≢ Some (codes "check"))

-- why they are refused: for the value of an option of their own subcommand, or out of memory
abbrev pub IsRefusedBy : Option (Text × List Row) → Refusal → Type 0
IsRefusedBy met (refusal.Words error) = ⊥
IsRefusedBy met refusal.Order = IsOfCase (name_of met) × (order_of (word_of (codes "order") met) ≡ None)
IsRefusedBy met refusal.Ahead = IsOfCase (name_of met) × (ahead_of (word_of (codes "ahead") met) ≡ None)
IsRefusedBy met refusal.Levels = IsOfCase (name_of met) × (levels_of (word_of (codes "levels") met) ≡ None)
IsRefusedBy met (refusal.Serve option) = (rows : List Row) × (met ≡ Some (codes "serve", rows)) × IsFirstWrong rows option
IsRefusedBy met refusal.NoMemory = Unit {0}

-- ---- what the words ask for

-- the words are those of `case`, and ask to run it by these events, with this many slots ahead and levels
pub record AsksCase (words : List Text) (order : List Event) (ahead levels : ℕ) : Type 0 where
  pub taken : fault_of program words ≡ []
  pub says : AsksOf (subcommand_of program words) order ahead levels

-- they ask for the reason of the page's fault, or not
abbrev pub AsksWhy : List Text → Bool → Type 0
AsksWhy words is_why = is_why_of (subcommand_of program words) ≡ is_why

-- the words are those of `serve`, and ask for a server with this setup
pub record AsksServe (words : List Text) (setup : Setup) : Type 0 where
  pub taken : fault_of program words ≡ []
  pub says : AsksServeOf (subcommand_of program words) setup

-- the words are those of `check`, and ask for these files
pub record AsksCheck (words : List Text) (checking : Checking) : Type 0 where
  pub taken : fault_of program words ≡ []
  pub says : AsksCheckOf (subcommand_of program words) checking

-- the words ask for this
abbrev pub Asks : List Text → Invocation → Type 0
Asks words (Case order ahead levels is_why) = AsksCase words order.items ahead levels × AsksWhy words is_why
Asks words (Serve setup) = AsksServe words setup
Asks words (Check checking) = AsksCheck words checking

-- the words are refused for this: as `clap` defines it, or for the value of an option, or memory ran out
abbrev pub IsRefused : List Text → Refusal → Type 0
IsRefused words (refusal.Words error) = HasKind (fault_of program words) error
IsRefused words refusal.NoMemory = Unit {0}
IsRefused words why = (fault_of program words ≡ []) × IsRefusedBy (subcommand_of program words) why

-- the numbers are within their limits
abbrev pub IsWithin : Invocation → Type 0
IsWithin (Case order ahead levels is_why) = (ahead ≤ MAX_AHEAD) × AreLevels levels
IsWithin (Serve setup) = Unit {0}
IsWithin (Check checking) = Unit {0}
