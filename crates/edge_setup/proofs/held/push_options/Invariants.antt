use Rattle.std.proofs.Common.{◌≡◌, ◌++◌, take, string_bytes}
use Rattle.std.specs.List.{flat_map}
use Rattle.clap.specs.Words.{found_of, rows_of}
use Rattle.edge_setup.specs.Held.{line_of}
use Rattle.edge_setup.proofs.held.push_options.Given as goal

abbrev pub invariant-loop-option : goal.invariant-loop-option
invariant-loop-option l = string_bytes l.text ≡ string_bytes l.initial.text ++ flat_map (line_of (rows_of (found_of l.matches))) (take l.option-index l.options)
