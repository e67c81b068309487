-- The subcommand `case`, by `clap`'s definitions of commands.
use Rattle.std.specs.Prelude.{codes}
use Rattle.clap.specs.Words.{App, new_app, with_rule}
use Rattle.edge_setup.specs.Numbers.{numeric_option, row_of}
use Rattle.edge_setup.specs.declared.number.Number.TheVariants.{Levels}
use Rattle.edge_setup.specs.Rules.{named_flag, named_option, with_default}

-- how the case is run
abbrev pub with_run : App → App
with_run command = with_rule (with_rule (with_rule (with_rule command
    (named_option (codes "order")))
    (with_default (codes "16") (named_option (codes "ahead"))))
    (numeric_option (row_of Levels)))
    (named_flag (codes "why"))

-- the subcommand `case`
abbrev pub case_command : App
case_command = with_run (new_app (codes "case"))
