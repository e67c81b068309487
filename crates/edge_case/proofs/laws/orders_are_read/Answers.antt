use Rattle.edge_case.proofs.Orders.{order_sound, order_complete, one_order}
use Rattle.edge_case.proofs.laws.orders_are_read.Goals as goal

pub returns-clause-read : goal.returns-clause-read
returns-clause-read c = λ text events. (order_sound text events, order_complete text events)

pub returns-clause-one : goal.returns-clause-one
returns-clause-one c = one_order
