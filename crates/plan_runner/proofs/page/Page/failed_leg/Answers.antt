use Rattle.std.proofs.Common.{◌∙◌, option_and_then, ap, sym}
use Rattle.answer_board.specs.Board.{answer_at}
use Rattle.plan_runner.proofs.Sound.{failed_by}
use Rattle.plan_runner.proofs.page.Page.failed_leg.Goals as goal

pub returns-in-Some-clause-failed : goal.returns-in-Some-clause-failed
returns-in-Some-clause-failed c =
    let p = c.self.inside in
    λ finished. c.answer_in.ensures ∙ ap (option_and_then (answer_at p.board.slots)) (sym c.in-Some.is) ∙ failed_by p c.self.invariant c.args.self.now c.self.view_is finished

pub returns-in-None-clause-failed : goal.returns-in-None-clause-failed
returns-in-None-clause-failed c =
    let p = c.self.inside in
    λ finished. ap (option_and_then (answer_at p.board.slots)) (sym c.in-None.is) ∙ failed_by p c.self.invariant c.args.self.now c.self.view_is finished
