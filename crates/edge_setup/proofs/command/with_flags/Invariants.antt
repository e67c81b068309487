use Rattle.std.proofs.Common.{◌≡◌, fold, take}
use Rattle.clap.specs.Words.{app_of}
use Rattle.clap.specs.declared.builder.command.Command.TheViews.{out-Command as fields_of}
use Rattle.edge_setup.specs.Options.{flag_options, with_flag}
use Rattle.edge_setup.proofs.command.with_flags.Given as goal

abbrev pub invariant-loop-flag : goal.invariant-loop-flag
invariant-loop-flag l =
    (app_of l.command ≡ fold with_flag (app_of l.fn.command) (take l.flag-index flag_options))
    × ((fields_of l.command).has_globals ≡ (fields_of l.fn.command).has_globals)
