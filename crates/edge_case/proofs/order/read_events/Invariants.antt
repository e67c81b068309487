use Rattle.std.proofs.Common.{◌≡◌, length}
use Rattle.edge_case.specs.Order.{events_of}
use Rattle.edge_case.proofs.Orders.{with_events}
use Rattle.edge_case.proofs.order.read_events.Given as goal

abbrev pub invariant-loop-item : goal.invariant-loop-item
invariant-loop-item l = with_events l.events.items (events_of l.rest) ≡ events_of l.text

abbrev pub decreases-loop-item : goal.decreases-loop-item
decreases-loop-item l = length l.rest
