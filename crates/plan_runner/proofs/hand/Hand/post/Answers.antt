use Rattle.std.proofs.Common.{subst, refl, ◌<◌, length, List}
use Rattle.answer_board.specs.Board.{Ticket}
use Rattle.plan_runner.proofs.Holding.{taken_out, never_refused, posts, posts_held, receipt_is}
use Rattle.plan_runner.proofs.hand.Hand.post.Goals as goal

pub want_of_memory-requires : goal.want_of_memory-requires
want_of_memory-requires c =
    let i = c.self.inside in
    let there = taken_out i.tickets.items c.args.place c.into_ticket-ticket.result _ (subst (λ (xs : List Ticket). c.args.place < length xs) c.deref.ensures.value c.in-Some.ensures.lookup.3.0) c.remove.ensures.value c.into_ticket-ticket.ensures in
    never_refused c.args.table.now c.args.self.now i.page c.post.new.self i.tickets.items c.args.place c.into_ticket-ticket.result c.in-Ok.receipt c.in-Err-post.fault c.self.view_is c.requires there (receipt_is c.args.table.now c.into_ticket-ticket.result c.in-Ok.receipt c.in_ok-prepared.prepared c.url.result.now c.in-Ok.ensures.ok c.in_ok-prepared.ensures (c.in-Ok.ensures.named.0 refl)) c.in-Err-post.ensures.refused

pub returns-clause-post : goal.returns-clause-post
returns-clause-post c =
    let i = c.self.inside in
    let there = taken_out i.tickets.items c.args.place c.into_ticket-ticket.result _ (subst (λ (xs : List Ticket). c.args.place < length xs) c.deref.ensures.value c.in-Some.ensures.lookup.3.0) c.remove.ensures.value c.into_ticket-ticket.ensures in
    posts c.args.table.now c.args.self.now i.page c.post.new.self i.tickets.items c.remove.new.self.items c.args.place c.into_ticket-ticket.result c.in-Ok.receipt c.self.view_is there (receipt_is c.args.table.now c.into_ticket-ticket.result c.in-Ok.receipt c.in_ok-prepared.prepared c.url.result.now c.in-Ok.ensures.ok c.in_ok-prepared.ensures (c.in-Ok.ensures.named.0 refl)) c.in-Ok-post.ensures.ok c.remove.ensures.items

pub returns-clause-held : goal.returns-clause-held
returns-clause-held c =
    let i = c.self.inside in
    let there = taken_out i.tickets.items c.args.place c.into_ticket-ticket.result _ (subst (λ (xs : List Ticket). c.args.place < length xs) c.deref.ensures.value c.in-Some.ensures.lookup.3.0) c.remove.ensures.value c.into_ticket-ticket.ensures in
    posts_held c.args.table.now c.args.self.now i.page c.post.new.self i.tickets.items c.remove.new.self.items c.args.place c.into_ticket-ticket.result c.in-Ok.receipt c.self.view_is there (receipt_is c.args.table.now c.into_ticket-ticket.result c.in-Ok.receipt c.in_ok-prepared.prepared c.url.result.now c.in-Ok.ensures.ok c.in_ok-prepared.ensures (c.in-Ok.ensures.named.0 refl)) c.in-Ok-post.ensures.ok c.in-Ok-post.ensures.log c.remove.ensures.items c.requires
