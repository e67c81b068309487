use Rattle.std.proofs.Common.{◌≤◌, ◌+◌, sym, ◌∙◌, arith}
use Rattle.template_check.proofs.ElementLemmas.{innermost-none, innermost-here, innermost-before}
use Rattle.template_check.proofs.elements.innermost.Goals as goal

pub returns-in_default-ended_before : goal.returns-in_default-ended_before
returns-in_default-ended_before c =
    c.opened_by.ensures
    ∙ sym (innermost-here c.loop-token.ended c.loop-token.rest.now c.in-Some.before.now c.in-Some.token.now c.in-Some.ensures.cases.0 (sym c.in_default-ended_before.ensures.value))
    ∙ c.loop-token.invariant.so_far

pub loop-token-preserved : goal.loop-token-preserved
loop-token-preserved c =
    let more : c.in-Some-ended_before.more ≤ c.loop-token.ended + 1 = c.in-Some-ended_before.ensures.few in
    record {
      few = grind (arith, more);
      so_far =
          sym (innermost-before c.loop-token.ended c.in-Some-ended_before.more c.loop-token.rest.now c.in-Some.before.now c.in-Some.token.now c.in-Some.ensures.cases.0 (sym c.in-Some-ended_before.ensures.value))
          ∙ c.loop-token.invariant.so_far;
    }

pub returns : goal.returns
returns c = sym (innermost-none c.loop-token.ended c.loop-token.rest.now c.in_default.ensures.cases) ∙ c.loop-token.invariant.so_far
