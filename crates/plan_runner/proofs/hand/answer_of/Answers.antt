use Rattle.std.proofs.Common.{◌∙◌}
use Rattle.plan_runner.proofs.Replies.{replied}
use Rattle.plan_runner.proofs.hand.answer_of.Goals as goal

pub returns-in_ok-try_clone-in-Some : goal.returns-in_ok-try_clone-in-Some
returns-in_ok-try_clone-in-Some c = c.in_ok-try_clone-in-Some.ensures ∙ replied c.args.table.now c.args.url.now _ c.in-Some.ensures.some
