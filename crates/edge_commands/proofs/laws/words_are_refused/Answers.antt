use Rattle.edge_commands.proofs.WrittenOut.{levels_say, order_alone, ahead_alone, levels_alone, order_twice, ahead_twice, levels_twice}
use Rattle.edge_commands.proofs.Asking.{levels_ask, faulty}
use Rattle.edge_commands.proofs.laws.words_are_refused.Goals as goal

pub returns-clause-levels : goal.returns-clause-levels
returns-clause-levels c = λ name word plain none order ahead levels asks. none levels ((levels_ask name word order ahead levels (levels_say name word plain)).0 asks).2

pub returns-clause-without : goal.returns-clause-without
returns-clause-without c = λ name. (faulty _ _ (order_alone name), faulty _ _ (ahead_alone name), faulty _ _ (levels_alone name))

pub returns-clause-twice : goal.returns-clause-twice
returns-clause-twice c = λ name one other one_plain other_plain. (
  faulty _ _ (order_twice name one other one_plain other_plain),
  faulty _ _ (ahead_twice name one other one_plain other_plain),
  faulty _ _ (levels_twice name one other one_plain other_plain),
)
