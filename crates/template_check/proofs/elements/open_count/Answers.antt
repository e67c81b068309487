use Rattle.std.proofs.Common.{◌≤◌, ◌+◌, sym, ◌∙◌, ap, arith}
use Rattle.template_check.proofs.ElementLemmas.{count-none, count-here, count-before}
use Rattle.template_check.proofs.elements.open_count.Goals as goal

pub loop-token-preserved-in-Some-ended_before : goal.loop-token-preserved-in-Some-ended_before
loop-token-preserved-in-Some-ended_before c =
    let more : c.in-Some-ended_before.more ≤ c.loop-token.ended + 1 = c.in-Some-ended_before.ensures.few in
    let back = count-before c.loop-token.ended c.in-Some-ended_before.more c.loop-token.rest.now c.in-Some.before.now c.in-Some.token.now c.in-Some.ensures.cases.0 (sym c.in-Some-ended_before.ensures.value) in
    record {
      few = grind (arith, more);
      less = grind arith;
      so_far = ap (λ n. c.loop-token.count + n) (sym back) ∙ c.loop-token.invariant.so_far;
    }

pub loop-token-preserved : goal.loop-token-preserved
loop-token-preserved c =
    let back = count-here c.loop-token.ended c.loop-token.rest.now c.in-Some.before.now c.in-Some.token.now c.in-Some.ensures.cases.0 (sym c.in-None.ensures.value) in
    record {
      few = grind arith;
      less = grind arith;
      so_far = omega (arith, back, c.loop-token.invariant.so_far);
    }

pub returns : goal.returns
returns c =
    let none = count-none c.loop-token.ended c.loop-token.rest.now c.in_default.ensures.cases in
    omega (arith, none, c.loop-token.invariant.so_far)
