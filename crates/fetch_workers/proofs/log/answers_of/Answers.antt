use Rattle.std.proofs.Common.{arith, ◌∙◌, ap, sym}
use Rattle.std.proofs.lemmas.Grind.{common_steps}
use Rattle.answer_sources.specs.Ways.{counted}
use Rattle.fetch_workers.proofs.Ways.{counts_of_push}
use Rattle.fetch_workers.proofs.log.answers_of.Goals as goal

-- one more answer, and the way by which it came
pub loop-one-preserved : goal.loop-one-preserved
loop-one-preserved c =
    (grind (arith, common_steps), c.with-ways.ensures ∙ ap (counted c.in-Some.one.way) c.loop-one.invariant.1 ∙ sym (counts_of_push c.loop-one.yielded c.in-Some.one))
