use Rattle.std.proofs.Common.{refl, ◌∙◌}
use Rattle.plan_runner.proofs.Placing.{placed_first, placed_rest, placed_same, unwound_over}
use Rattle.plan_runner.proofs.machine.unwind.Goals as goal

pub returns-in-Some-pop-clause-placed : goal.returns-in-Some-pop-clause-placed
returns-in-Some-pop-clause-placed c =
    λ log all.
    c.in_ok-go_on.ensures.placed log
    (placed_same log c.in-Some.frame _ refl (placed_first log c.loop-frame.machine.frames c.in-Some.frame c.pop.new.self c.in-Some.ensures.some (c.loop-frame.invariant.placed log all)))
    (placed_rest log c.loop-frame.machine.frames c.in-Some.frame c.pop.new.self c.in-Some.ensures.some (c.loop-frame.invariant.placed log all))

pub loop-frame-preserved : goal.loop-frame-preserved
loop-frame-preserved c = record {
  legs = c.loop-frame.invariant.legs;
  out = c.loop-frame.invariant.out;
  same = λ log. c.loop-frame.invariant.same log ∙ unwound_over log _ _ c.loop-frame.machine.frames c.in-Some.frame c.pop.new.self c.in-Some.ensures.some c.in_default-pop.ensures.none.0;
  placed = λ log all. placed_rest log c.loop-frame.machine.frames c.in-Some.frame c.pop.new.self c.in-Some.ensures.some (c.loop-frame.invariant.placed log all);
}
