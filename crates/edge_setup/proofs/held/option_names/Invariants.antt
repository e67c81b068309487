use Rattle.std.proofs.Common.{◌≡◌, take}
use Rattle.std.specs.List.{flat_map}
use Rattle.clap.specs.declared.builder.command.Command.TheViews.{out-Command as fields_of}
use Rattle.edge_setup.specs.Held.{flag_of, repeated_of, valued_of}
use Rattle.edge_setup.proofs.held.option_names.Given as goal

abbrev pub invariant-loop-option : goal.invariant-loop-option
invariant-loop-option l =
    (l.names.flags.items ≡ flat_map flag_of (take l.option-index (fields_of l.fn.command).args.items))
    × (l.names.valued.items ≡ flat_map valued_of (take l.option-index (fields_of l.fn.command).args.items))
    × (l.names.repeated.items ≡ flat_map repeated_of (take l.option-index (fields_of l.fn.command).args.items))
