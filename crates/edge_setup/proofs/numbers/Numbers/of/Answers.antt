use Rattle.clap.specs.Words.{found_of, rows_of}
use Rattle.edge_setup.specs.Numbers.{numbers}
use Rattle.edge_setup.proofs.NumberLemmas.{all_fit_said}
use Rattle.edge_setup.proofs.numbers.Numbers.of.Goals as goal

pub invariant_of-result : goal.invariant_of-result
invariant_of-result c = record { fit = all_fit_said (rows_of (found_of c.args.matches.now)) numbers c.in_ok-values.values.items c.in_ok-values.ensures }
