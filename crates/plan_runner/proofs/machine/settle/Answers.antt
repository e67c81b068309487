use Rattle.std.proofs.Common.{◌∙◌, subst, sym}
use Rattle.plan_runner.specs.Shown.{ArePlaced}
use Rattle.plan_runner.proofs.Placing.{settled_over, placed_rest}
use Rattle.plan_runner.proofs.machine.settle.Goals as goal

pub returns-then-top-clause-placed : goal.returns-then-top-clause-placed
returns-then-top-clause-placed c = λ log all. subst (ArePlaced log) (c.in-Some.ensures.some ∙ sym c.in_ok-push.ensures) (c.loop-top.invariant.placed log all)

pub loop-top-preserved : goal.loop-top-preserved
loop-top-preserved c = record {
  same = λ log. c.loop-top.invariant.same log ∙ settled_over log c.loop-top.frames c.in-Some.top c.pop.new.self c.in-Some.ensures.some c.if-top.false;
  placed = λ log all. placed_rest log c.loop-top.frames c.in-Some.top c.pop.new.self c.in-Some.ensures.some (c.loop-top.invariant.placed log all);
}
