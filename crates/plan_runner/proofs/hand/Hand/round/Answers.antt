use Rattle.plan_runner.proofs.Holding.{round_less}
use Rattle.plan_runner.proofs.hand.Hand.round.Goals as goal

pub returns-clause-less : goal.returns-clause-less
returns-clause-less c =
    let e = c.in_ok-outcome.ensures in
    let f = c.in_ok-claim_all-in-Waiting.ensures in
    (round_less c.args.table.now c.args.self.now c.claim_all.new.self c.post.new.self c.advance.new.self.page c.self.inside.page c.self.inside.tickets.items c.in_ok-outcome.field-0 c.in-Waiting.field-0 c.in-Waiting.is
    e.advances c.requires e.over_the_table f.only f.all f.held c.self.view_is c.sound.ensures.board c.in_ok-post-in-Waiting.ensures.post).0

pub returns-clause-same : goal.returns-clause-same
returns-clause-same c =
    let e = c.in_ok-outcome.ensures in
    let f = c.in_ok-claim_all-in-Waiting.ensures in
    (round_less c.args.table.now c.args.self.now c.claim_all.new.self c.post.new.self c.advance.new.self.page c.self.inside.page c.self.inside.tickets.items c.in_ok-outcome.field-0 c.in-Waiting.field-0 c.in-Waiting.is
    e.advances c.requires e.over_the_table f.only f.all f.held c.self.view_is c.sound.ensures.board c.in_ok-post-in-Waiting.ensures.post).1
