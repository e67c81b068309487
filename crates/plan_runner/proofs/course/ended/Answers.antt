use Rattle.std.proofs.Common.{◌∙◌, sym, ap}
use Rattle.edge_types.specs.Answered.{Answered}
use Rattle.plan_runner.proofs.Courses.{own_absent, own_failed, own_got, end_shown}
use Rattle.plan_runner.proofs.course.ended.Goals as goal

pub unreachable-requires : goal.unreachable-requires
unreachable-requires c = own_absent c.args.setting.now.board.now c.filled.ensures.sound c.args.url.now (rw c.in_default.is at c.get.ensures) c.requires.template

pub unreachable-requires-in_default-reply : goal.unreachable-requires-in_default-reply
unreachable-requires-in_default-reply c =
    let reply = sym (c.reply.ensures.value ∙ ap (λ (x : Answered). x.reply) (c.deref.ensures ∙ c.answer.ensures)) ∙ c.in_default-reply.is in
    own_failed c.args.setting.now.board.now c.filled.ensures.sound c.args.url.now c.in-Some.own.now (rw c.in-Some.is at c.get.ensures) reply c.requires.template

pub returns-clause-shown : goal.returns-clause-shown
returns-clause-shown c =
    let b = c.args.setting.now.board.now in
    let a = c.in-Some.own.now in
    let reply = sym (c.reply.ensures.value ∙ ap (λ (x : Answered). x.reply) (c.deref.ensures ∙ c.answer.ensures)) ∙ c.in-Got.is in
    λ tree head page.
    end_shown a _ _ head _ _ _ _ _ _ _ reply (own_got b c.filled.ensures.sound c.args.url.now a (rw c.in-Some.is at c.get.ensures) tree head page)
    c.in_ok-head.ensures c.replace-body.ensures.value c.if-progress.false
