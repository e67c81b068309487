use Rattle.std.proofs.Common.{◌∙◌, ℕ, ap, sym, refl}
use Rattle.edge_types.specs.Answered.{Answered}
use Rattle.plan_runner.specs.Plain.{plain_outcome}
use Rattle.plan_runner.proofs.Courses.{own_is, own_missing, own_unknown, plain_done, bad_done, begun}
use Rattle.plan_runner.proofs.LastLegs.{plain_stands}
use Rattle.plan_runner.proofs.course.begin.Goals as goal

pub returns-in_default : goal.returns-in_default
returns-in_default c = (own_unknown c.args.setting.now.board.now c.filled.ensures.sound c.args.url.now (rw c.in_default.is at c.number.ensures), refl)

pub returns-in_default-prepared : goal.returns-in_default-prepared
returns-in_default-prepared c =
    (own_missing c.args.setting.now.board.now c.filled.ensures.sound c.args.url.now c.in-Some.slot (rw c.in-Some.is at c.number.ensures) (rw c.in_default-prepared.is at c.prepared.ensures), refl)

pub returns-in_ok-outcome-in-Plain : goal.returns-in_ok-outcome-in-Plain
returns-in_ok-outcome-in-Plain c =
    let b = c.args.setting.now.board.now in
    let a = c.in-Some-prepared.own.now in
    let found = own_is b c.filled.ensures.sound c.args.url.now c.in-Some.slot a (rw c.in-Some.is at c.number.ensures) (rw c.in-Some-prepared.is at c.prepared.ensures) in
    (plain_done c.args.setting.now.request.now c.args.levels c.args.url.now b a found (rw c.in-Plain.is at c.form.ensures) _ (c.in_ok-outcome-in-Plain.ensures ∙ ap (λ (x : Answered). plain_outcome x.reply) c.answer.ensures), refl, λ e. plain_stands a.reply (sym (c.in_ok-outcome-in-Plain.ensures ∙ ap (λ (x : Answered). plain_outcome x.reply) c.answer.ensures) ∙ e))

pub returns-in-BadAt : goal.returns-in-BadAt
returns-in-BadAt c =
    let b = c.args.setting.now.board.now in
    let a = c.in-Some-prepared.own.now in
    let found = own_is b c.filled.ensures.sound c.args.url.now c.in-Some.slot a (rw c.in-Some.is at c.number.ensures) (rw c.in-Some-prepared.is at c.prepared.ensures) in
    (bad_done c.args.setting.now.request.now c.args.levels c.args.url.now b a found _ (rw c.in-BadAt.is at c.form.ensures), refl, λ e. absurd (cc))

pub returns-in_ok-progress-in-Planned : goal.returns-in_ok-progress-in-Planned
returns-in_ok-progress-in-Planned c =
    let b = c.args.setting.now.board.now in
    let a = c.in-Some-prepared.own.now in
    let there = rw c.in-Some-prepared.is at c.prepared.ensures in
    let found = own_is b c.filled.ensures.sound c.args.url.now c.in-Some.slot a (rw c.in-Some.is at c.number.ensures) there in
    let m = c.in_ok-progress-in-Planned.field-0 in
    begun c.args.setting.now.request.now c.args.levels c.args.url.now b c.in-Some.slot a c.in-Planned.plan there found (rw c.in-Planned.is at c.form.ensures) m c.len.result c.len.ensures
    (c.in_ok-progress-in-Planned.ensures.shown b) (c.in_ok-progress-in-Planned.ensures.placed b) _ (ap (λ (n : ℕ). record { machine = m; steps = n }) c.requires.fresh)
