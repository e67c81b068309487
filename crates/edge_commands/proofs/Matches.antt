-- What was matched, from the getters to the rows; and how the judgement of the words follows.
use Rattle.std.proofs.Common.{◌≡◌, true, List, [], codes, refl, Option, Some, None, option_map, Result, Ok, Err}
use Rattle.std.specs.Box.{box_value}
use Rattle.std.specs.Prelude.{Box, MatchResult}
use Rattle.clap.specs.Words.{Row, Text, fault_of, first_value, is_simple, is_simple_and_free, rows_of, subcommand_of, subcommand_rows}
use Rattle.clap.specs.declared.parser.matches.ArgMatches.TheViews.{out-SubCommand}
use Rattle.clap.specs.declared.parser.matches.Found.{Found}
use Rattle.clap.specs.declared.parser.matches.SubCommand.{SubCommand}
use Rattle.clap.proofs.WalkLemmas.{first_value-rows}
use Rattle.clap.proofs.OnLiterals.{clap_on_literals}
use Rattle.edge_commands.specs.declared.command.Invocation.{Invocation}
use Rattle.edge_commands.specs.declared.command.Invocation.TheVariants.{Case, Serve, Check}
use Rattle.edge_commands.specs.declared.command.Refusal.{Refusal}
use Rattle.edge_commands.specs.declared.command.Refusal.TheVariants as refusal
use Rattle.edge_commands.specs.CommandLine.{program, word_of, IsInvokedBy, IsInvokedToCheck, IsInvokedToServe, IsRefusedBy, IsRefusedToCheck, IsRefusedToServe, Asks, IsRefused}

pub name_of_rows : {Z : Type 0} (sub : Option (Box SubCommand Z)) → option_map (λ p. p.0) (subcommand_rows sub) ≡ option_map (λ b. (out-SubCommand (box_value b)).name.now) sub
name_of_rows None = refl
name_of_rows (Some b) = refl

pub word_of_case : (name : Text) (met : Option (Text × List Row)) (f : Found) → option_map (λ p. p.0) met ≡ Some (codes "case") → option_map (λ p. p.1) met ≡ Some (rows_of f)
    → first_value f name ≡ word_of name met
word_of_case name None f is rows = absurd (cc)
word_of_case name (Some p) f is rows =
    let n : p.0 ≡ codes "case" = cc in
    let r : p.1 ≡ rows_of f = cc in
    rw (n, r) (first_value-rows f name)

-- the command is one of which `clap` tells what the words give
pub program_is_simple : is_simple program ≡ true
unfolding clap_on_literals
program_is_simple = refl

pub program_is_free : is_simple_and_free program ≡ true
unfolding clap_on_literals
program_is_free = refl

-- what the matches ask for, the words ask for
pub judged : (words : List Text) (result : Result Invocation Refusal) → fault_of program words ≡ []
    → MatchResult result (IsInvokedBy (subcommand_of program words)) (IsRefusedBy (subcommand_of program words)) → MatchResult result (Asks words) (IsRefused words)
judged words (Ok (Case order ahead levels is_why)) taken says = (record { taken = taken; says = says.0 }, says.1)
judged words (Ok (Serve setup)) taken says = record { taken = taken; says = says }
judged words (Ok (Check checking)) taken says = record { taken = taken; says = says }
judged words (Err (refusal.Words error)) taken says = absurd says
judged words (Err refusal.Order) taken says = (taken, says)
judged words (Err refusal.Ahead) taken says = (taken, says)
judged words (Err refusal.Levels) taken says = (taken, says)
judged words (Err (refusal.Serve option)) taken says = (taken, says)
judged words (Err refusal.NoMemory) taken says = tt

-- what the rows of `serve` ask for, the matches do
pub served : (met : Option (Text × List Row)) (rows : List Row) (result : Result Invocation Refusal) → met ≡ Some (codes "serve", rows)
    → MatchResult result (IsInvokedToServe rows) (IsRefusedToServe rows) → MatchResult result (IsInvokedBy met) (IsRefusedBy met)
served met rows (Ok (Case order ahead levels is_why)) is says = absurd says
served met rows (Ok (Serve setup)) is says = record { rows = rows; met_is = is; says = says }
served met rows (Ok (Check checking)) is says = absurd says
served met rows (Err (refusal.Words error)) is says = absurd says
served met rows (Err refusal.Order) is says = absurd says
served met rows (Err refusal.Ahead) is says = absurd says
served met rows (Err refusal.Levels) is says = absurd says
served met rows (Err (refusal.Serve option)) is says = (rows, is, says)
served met rows (Err refusal.NoMemory) is says = tt

-- what the rows of `check` ask for, the matches do
pub checked : (met : Option (Text × List Row)) (rows : List Row) (result : Result Invocation Refusal) → met ≡ Some (codes "check", rows)
    → MatchResult result (IsInvokedToCheck rows) IsRefusedToCheck → MatchResult result (IsInvokedBy met) (IsRefusedBy met)
checked met rows (Ok (Case order ahead levels is_why)) is says = absurd says
checked met rows (Ok (Serve setup)) is says = absurd says
checked met rows (Ok (Check checking)) is says = record { rows = rows; met_is = is; says = says }
checked met rows (Err (refusal.Words error)) is says = absurd says
checked met rows (Err refusal.Order) is says = absurd says
checked met rows (Err refusal.Ahead) is says = absurd says
checked met rows (Err refusal.Levels) is says = absurd says
checked met rows (Err (refusal.Serve option)) is says = absurd says
checked met rows (Err refusal.NoMemory) is says = tt

-- a subcommand of this name with these rows
pub entered : (met : Option (Text × List Row)) (name : Text) (rows : List Row) → option_map (λ p. p.0) met ≡ Some name → option_map (λ p. p.1) met ≡ Some rows → met ≡ Some (name, rows)
entered None name rows is has = absurd (cc)
entered (Some p) name rows is has =
    let n : p.0 ≡ name = cc in
    let r : p.1 ≡ rows = cc in
    rw (← n, ← r) refl
