use Rattle.plan_runner.proofs.Holding.{advanced, held_there}
use Rattle.plan_runner.proofs.hand.Hand.advance.Goals as goal

pub returns-clause-held : goal.returns-clause-held
returns-clause-held c =
    let i = c.self.inside in
    let e = c.in-Ok.ensures in
    held_there c.args.table.now c.args.self.now i.page i.tickets.items c.advance.new.self c.in-Ok.told c.self.view_is e.told e.standing e.log e.same.0 e.same.1 e.same.2 e.same.3 e.moves c.requires

pub returns-clause-over_the_table : goal.returns-clause-over_the_table
returns-clause-over_the_table c =
    let i = c.self.inside in
    c.in-Ok.ensures.over_every_table c.args.table.now (advanced c.args.table.now c.args.self.now i.page i.tickets.items c.advance.new.self c.self.view_is c.in-Ok.ensures.log c.requires)
