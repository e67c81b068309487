use Rattle.std.proofs.Common.{◌∙◌, sym}
use Rattle.template_check.proofs.WarnedLemmas.{empty-end, empty-found, empty-step}
use Rattle.template_check.proofs.warning.stands_empty.Goals as goal

pub returns-then-begins_empty : goal.returns-then-begins_empty
returns-then-begins_empty c =
    sym (empty-found c.loop-byte.behind_bar c.loop-byte.rest.now c.in-Some.after.now c.in-Some.byte.now c.in-Some.ensures.cases.0 (sym c.begins_empty.ensures ∙ c.if-begins_empty.true)) ∙ c.loop-byte.invariant

pub loop-byte-preserved : goal.loop-byte-preserved
loop-byte-preserved c =
    sym (empty-step c.loop-byte.behind_bar c.loop-byte.rest.now c.in-Some.after.now c.in-Some.byte.now c.in-Some.ensures.cases.0 (sym c.begins_empty.ensures ∙ c.if-begins_empty.false)) ∙ c.loop-byte.invariant

pub returns : goal.returns
returns c = sym (empty-end c.loop-byte.behind_bar c.loop-byte.rest.now c.in_default.ensures.cases) ∙ c.loop-byte.invariant
