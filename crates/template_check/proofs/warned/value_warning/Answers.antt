use Rattle.std.proofs.Common.{◌∙◌, sym}
use Rattle.template_check.proofs.WarnedLemmas.{value-found, value-passed, value-end}
use Rattle.template_check.proofs.warned.value_warning.Goals as goal

pub returns-then-is_some : goal.returns-then-is_some
returns-then-is_some c =
    value-found c.loop-i.i c.args.value.now c.split_at.result.1.now c.in_ok-warning.warning c.loop-i-test.true c.split_at.ensures.back c.in_ok-warning.ensures (sym c.is_some.ensures ∙ c.if-is_some.true) c.loop-i.invariant

pub loop-i-preserved : goal.loop-i-preserved
loop-i-preserved c =
    value-passed c.loop-i.i c.args.value.now c.split_at.result.1.now c.in_ok-warning.warning c.loop-i-test.true c.split_at.ensures.back c.in_ok-warning.ensures (sym c.is_some.ensures ∙ c.if-is_some.false) c.loop-i.invariant

pub returns : goal.returns
returns c = sym (value-end c.loop-i.i c.args.value.now c.loop-i-test.false) ∙ c.loop-i.invariant
