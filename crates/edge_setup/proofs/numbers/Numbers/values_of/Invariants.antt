use Rattle.std.proofs.Common.{◌≡◌, map, take, Some}
use Rattle.clap.specs.Words.{found_of, rows_of}
use Rattle.edge_setup.specs.Numbers.{all_said, numbers}
use Rattle.edge_setup.proofs.numbers.Numbers.values_of.Given as goal

abbrev pub invariant-loop-number : goal.invariant-loop-number
invariant-loop-number l = all_said (rows_of (found_of l.matches)) (take l.number-index numbers) ≡ map Some l.values.items
