use Rattle.std.proofs.Common.{◌≡◌, None, Some, sym, ◌∙◌, rules}
use Rattle.edge_types.specs.Halves.{around}
use Rattle.edge_case.specs.Order.{comma, event_of, after_item}
use Rattle.edge_case.proofs.Orders.{cuts, next_item, bad_item, last_item}
use Rattle.edge_case.proofs.order.read_events.Goals as goal

pub returns-then-not-branch : goal.returns-then-not-branch
returns-then-not-branch c =
    let events = c.loop-item.events.items in
    let added : after_item events (event_of c.in-Some.item.now) ≡ None = rw c.if-not-branch.true at c.in_ok-add_item.ensures in
    sym (bad_item events c.loop-item.rest.now c.in-Some.item.now c.in-Some.after.now (sym c.in-Some.ensures.value) added) ∙ c.loop-item.invariant

pub loop-item-smaller : goal.loop-item-smaller
loop-item-smaller c = (cuts c.loop-item.rest.now c.in-Some.item.now c.in-Some.after.now (sym c.in-Some.ensures.value)).shorter

pub loop-item-preserved : goal.loop-item-preserved
loop-item-preserved c =
    let events = c.loop-item.events.items in
    let more = c.add_item.new.events.items in
    let added : after_item events (event_of c.in-Some.item.now) ≡ Some more = rw c.if-not-branch.false at c.in_ok-add_item.ensures in
    next_item events more c.loop-item.rest.now c.in-Some.item.now c.in-Some.after.now (sym c.in-Some.ensures.value) added ∙ c.loop-item.invariant

pub returns-then-branch : goal.returns-then-branch
returns-then-branch c =
    let events = c.loop-item.events.items in
    let rest = c.loop-item.rest.now in
    let none : around comma rest ≡ None = search rules in
    let added : after_item events (event_of rest) ≡ Some c.add_item-2.new.events.items = rw c.if-branch.true at c.in_ok-add_item-2.ensures in
    sym added ∙ sym (last_item events rest none) ∙ c.loop-item.invariant

pub returns-else-branch : goal.returns-else-branch
returns-else-branch c =
    let events = c.loop-item.events.items in
    let rest = c.loop-item.rest.now in
    let none : around comma rest ≡ None = search rules in
    let added : after_item events (event_of rest) ≡ None = rw c.if-branch.false at c.in_ok-add_item-2.ensures in
    sym added ∙ sym (last_item events rest none) ∙ c.loop-item.invariant
