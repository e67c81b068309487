use Rattle.std.proofs.Common.{◌∙◌, refl}
use Rattle.clap.specs.Words.{found_of, subcommand_rows_of}
use Rattle.clap.specs.declared.parser.matches.ArgMatches.TheViews.{out-ArgMatches}
use Rattle.edge_commands.proofs.Matches.{name_of_rows, word_of_case}
use Rattle.edge_commands.proofs.command_line.word_of.Goals as goal

pub returns : goal.returns
returns c =
    let matches = c.args.matches.now in
    let found = c.in_ok-subcommand_matches.ensures in
    c.get_str.ensures ∙ word_of_case c.args.name.now (subcommand_rows_of matches) (found_of c.in_ok-subcommand_matches.field-0.now)
    (name_of_rows (out-ArgMatches matches).subcommand ∙ found.found.0 refl) found.rows
