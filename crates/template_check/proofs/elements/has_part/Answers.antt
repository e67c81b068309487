use Rattle.std.proofs.Common.{◌≡◌, ◌≤◌, ◌+◌, true, false, sym, ◌∙◌, arith}
use Rattle.template_check.specs.OpenElements.{ends_part}
use Rattle.template_check.proofs.ElementLemmas.{part-none, part-found, part-here, part-before}
use Rattle.template_check.proofs.elements.has_part.Goals as goal

pub returns-then-ends_part : goal.returns-then-ends_part
returns-then-ends_part c =
    let is : ends_part c.args.wanted c.in-Some.token.now.kind c.loop-token.ended ≡ true = sym c.ends_part.ensures ∙ c.if-ends_part.true in
    sym (part-found c.args.wanted c.loop-token.ended c.loop-token.rest.now c.in-Some.before.now c.in-Some.token.now c.in-Some.ensures.cases.0 is) ∙ c.loop-token.invariant.so_far

pub returns-in_default-ended_before : goal.returns-in_default-ended_before
returns-in_default-ended_before c =
    let is : ends_part c.args.wanted c.in-Some.token.now.kind c.loop-token.ended ≡ false = sym c.ends_part.ensures ∙ c.if-ends_part.false in
    sym (part-here c.args.wanted c.loop-token.ended c.loop-token.rest.now c.in-Some.before.now c.in-Some.token.now c.in-Some.ensures.cases.0 is (sym c.in_default-ended_before.ensures.value))
    ∙ c.loop-token.invariant.so_far

pub loop-token-preserved : goal.loop-token-preserved
loop-token-preserved c =
    let more : c.in-Some-ended_before.more ≤ c.loop-token.ended + 1 = c.in-Some-ended_before.ensures.few in
    let is : ends_part c.args.wanted c.in-Some.token.now.kind c.loop-token.ended ≡ false = sym c.ends_part.ensures ∙ c.if-ends_part.false in
    record {
      few = grind (arith, more);
      so_far =
          sym (part-before c.args.wanted c.loop-token.ended c.in-Some-ended_before.more c.loop-token.rest.now c.in-Some.before.now c.in-Some.token.now c.in-Some.ensures.cases.0 is (sym c.in-Some-ended_before.ensures.value))
          ∙ c.loop-token.invariant.so_far;
    }

pub returns : goal.returns
returns c = sym (part-none c.args.wanted c.loop-token.ended c.loop-token.rest.now c.in_default.ensures.cases) ∙ c.loop-token.invariant.so_far
