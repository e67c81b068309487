use Rattle.std.proofs.Common.{◌≡◌, map, take}
use Rattle.clap.specs.Words.{found_of, rows_of}
use Rattle.edge_setup.specs.Options.{flag_options, is_flag_set}
use Rattle.edge_setup.proofs.flags.Flags.values_of.Given as goal

abbrev pub invariant-loop-flag : goal.invariant-loop-flag
invariant-loop-flag l = l.values.items ≡ map (λ flag. is_flag_set flag (rows_of (found_of l.matches))) (take l.flag-index flag_options)
