use Rattle.edge_setup.specs.Numbers.{row_of}
use Rattle.edge_setup.proofs.NumberLemmas.{of_value}
use Rattle.edge_setup.proofs.numbers.Numbers.u64_of.Goals as goal

pub returns-clause-some : goal.returns-clause-some
returns-clause-some c = rw c.unwrap_or.ensures (of_value (row_of c.args.number) c.said.result c.requires c.said.ensures.fit).0

pub returns-clause-few : goal.returns-clause-few
returns-clause-few c = rw c.unwrap_or.ensures (of_value (row_of c.args.number) c.said.result c.requires c.said.ensures.fit).1
