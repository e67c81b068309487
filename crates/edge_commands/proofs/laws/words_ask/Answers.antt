use Rattle.edge_commands.proofs.WrittenOut.{plain_say, why_say, why_set, why_lacks, order_say, ahead_say, levels_say, all_say}
use Rattle.edge_commands.proofs.Asking.{plain_asks, why_asks, order_asks, ahead_asks, levels_ask, all_ask}
use Rattle.edge_commands.proofs.laws.words_ask.Goals as goal

pub returns-clause-default : goal.returns-clause-default
returns-clause-default c = λ name order ahead levels. plain_asks name order ahead levels (plain_say name)

pub returns-clause-order : goal.returns-clause-order
returns-clause-order c = λ name word plain order ahead levels. order_asks name word order ahead levels (order_say name word plain)

pub returns-clause-ahead : goal.returns-clause-ahead
returns-clause-ahead c = λ name word plain order ahead levels. ahead_asks name word order ahead levels (ahead_say name word plain)

pub returns-clause-levels : goal.returns-clause-levels
returns-clause-levels c = λ name word plain order ahead levels. levels_ask name word order ahead levels (levels_say name word plain)

pub returns-clause-all : goal.returns-clause-all
returns-clause-all c = λ name list slots depth list_plain slots_plain depth_plain order ahead levels.
    all_ask name list slots depth order ahead levels (all_say name list slots depth list_plain slots_plain depth_plain)

pub returns-clause-why : goal.returns-clause-why
returns-clause-why c = λ name. (why_set name, why_lacks name, λ order ahead levels. why_asks name order ahead levels (why_say name))
