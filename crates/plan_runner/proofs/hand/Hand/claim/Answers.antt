use Rattle.std.proofs.Common.{◌∙◌, sym, ap, Some, None}
use Rattle.std.proofs.lemmas.List.{append-nil}
use Rattle.plan_runner.specs.Events.{Held}
use Rattle.plan_runner.specs.Holding.{unclaimed}
use Rattle.plan_runner.proofs.Holding.{held_claim, only_claim, given_claim}
use Rattle.plan_runner.proofs.hand.Hand.claim.Goals as goal

pub returns-in_ok-push-in-Some-clause-held : goal.returns-in_ok-push-in-Some-clause-held
returns-in_ok-push-in-Some-clause-held c =
    let i = c.self.inside in
    held_claim c.args.table.now c.args.self.now i.page i.tickets.items c.claim.new.self.board (Some c.in-Some.ticket) c.self.view_is c.in-Some.ensures.claims c.claim.new.self c.push.new.self.items c.in-Some.ensures.rest c.in_ok-push-in-Some.ensures.items c.in-Some.ensures.log c.requires

pub returns-in_ok-push-in-Some-clause-one : goal.returns-in_ok-push-in-Some-clause-one
returns-in_ok-push-in-Some-clause-one c =
    let i = c.self.inside in
    given_claim i.page.standing i.page.board c.claim.new.self.board c.in-Some.ticket c.in-Some.ensures.claims ∙ ap (λ (h : Held). unclaimed h.page.board.slots) c.self.view_is

pub returns-in_ok-push-in-Some-clause-only : goal.returns-in_ok-push-in-Some-clause-only
returns-in_ok-push-in-Some-clause-only c =
    let i = c.self.inside in
    only_claim c.args.table.now c.args.self.now i.page i.tickets.items c.claim.new.self.board (Some c.in-Some.ticket) c.self.view_is c.in-Some.ensures.claims c.claim.new.self c.in-Some.ensures.rest c.in-Some.ensures.log

pub returns-in-None-clause-held : goal.returns-in-None-clause-held
returns-in-None-clause-held c =
    let i = c.self.inside in
    held_claim c.args.table.now c.args.self.now i.page i.tickets.items c.claim.new.self.board None c.self.view_is c.in-None.ensures.claims c.claim.new.self i.tickets.items c.in-None.ensures.rest (sym (append-nil i.tickets.items)) c.in-None.ensures.log c.requires
