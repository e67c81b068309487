use Rattle.std.specs.Arc.{arc_value}
use Rattle.std.proofs.lemmas.Result.{IfOk-weaker}
use Rattle.edge_types.specs.Outcome.{shown}
use Rattle.plan_runner.proofs.Same.{happen_same, outcome_after, at_end_after}
use Rattle.plan_runner.proofs.events.outcome_after.Goals as goal

pub returns-clause-outcome : goal.returns-clause-outcome
returns-clause-outcome c =
    let a = c.args in
    let same = happen_same a.table.now a.events.now a.hand.now c.run_all.new.hand c.in_ok-run_all.ensures.happen in
    IfOk-weaker c.finish.result _ _ (λ o is. outcome_after a.table.now a.hand.now.page c.run_all.new.hand.page (shown (arc_value o)) same is) c.finish.ensures.outcome

pub returns-clause-end : goal.returns-clause-end
returns-clause-end c =
    let a = c.args in
    let same = happen_same a.table.now a.events.now a.hand.now c.run_all.new.hand c.in_ok-run_all.ensures.happen in
    IfOk-weaker c.finish.result _ _ (λ o is. at_end_after a.table.now a.hand.now.page c.run_all.new.hand.page c.finish.new.self.page (shown (arc_value o)) same is) c.finish.ensures.end
