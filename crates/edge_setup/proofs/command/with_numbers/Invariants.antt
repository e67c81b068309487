use Rattle.std.proofs.Common.{◌≡◌, fold, take}
use Rattle.clap.specs.Words.{app_of}
use Rattle.clap.specs.declared.builder.command.Command.TheViews.{out-Command as fields_of}
use Rattle.edge_setup.specs.Numbers.{numbers, with_number}
use Rattle.edge_setup.proofs.command.with_numbers.Given as goal

abbrev pub invariant-loop-number : goal.invariant-loop-number
invariant-loop-number l =
    (app_of l.command ≡ fold with_number (app_of l.fn.command) (take l.number-index numbers))
    × ((fields_of l.command).has_globals ≡ (fields_of l.fn.command).has_globals)
