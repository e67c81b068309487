use Rattle.std.proofs.Common.{◌∙◌, refl}
use Rattle.clap.specs.Words.{found_of, rows_of, subcommand_rows_of}
use Rattle.clap.specs.declared.parser.matches.ArgMatches.TheViews.{out-ArgMatches}
use Rattle.edge_commands.proofs.Matches.{entered, name_of_rows}
use Rattle.edge_commands.proofs.command_line.matches_of.Goals as goal

pub returns-clause-met : goal.returns-clause-met
returns-clause-met c =
    let matches = c.args.matches.now in
    let found = c.in_ok-own.ensures in
    entered (subcommand_rows_of matches) c.args.name.now (rows_of (found_of c.in_ok-own.own.now)) (name_of_rows (out-ArgMatches matches).subcommand ∙ found.found.0 refl) found.rows
