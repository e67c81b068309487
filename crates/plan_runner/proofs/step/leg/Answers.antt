use Rattle.plan_runner.specs.Shown.{shown_machine}
use Rattle.plan_runner.proofs.Legs.{leg_many, put_back, leg_missing, leg_nowhere, leg_inside, leg_found, last_nowhere, last_inside, last_found}
use Rattle.plan_runner.proofs.step.leg.Goals as goal

pub returns-then-machine-ge-MAX_LEGS-clause-reached : goal.returns-then-machine-ge-MAX_LEGS-clause-reached
returns-then-machine-ge-MAX_LEGS-clause-reached c = (
  leg_many c.args.setting.now c.args.machine.now c.args.frame c.args.source.now c.if-machine-ge-MAX_LEGS.true,
  put_back c.args.setting.now c.args.machine.now c.args.frame c.args.source.now c.in_ok-push.ensures,
)

pub returns-in_ok-push-in-Missing-clause-reached : goal.returns-in_ok-push-in-Missing-clause-reached
returns-in_ok-push-in-Missing-clause-reached c = (
  leg_missing c.args.setting.now c.args.machine.now c.args.frame c.args.source.now c.if-machine-ge-MAX_LEGS.false c.args.template.now c.requires.url c.requires.inlines c.in_ok-url.field-0 c.in_ok-url.ensures c.in-Missing.url c.in-Missing.is,
  put_back c.args.setting.now c.args.machine.now c.args.frame c.args.source.now c.in_ok-push-in-Missing.ensures,
)

pub returns-in_ok-fail-in-Nowhere-clause-reached : goal.returns-in_ok-fail-in-Nowhere-clause-reached
returns-in_ok-fail-in-Nowhere-clause-reached c =
    leg_nowhere c.args.setting.now c.args.machine.now c.args.frame c.args.source.now c.if-machine-ge-MAX_LEGS.false c.args.template.now c.requires.url c.requires.inlines c.in_ok-url.field-0 c.in_ok-url.ensures
    (shown_machine c.args.setting.now.board.now c.fail.new.machine) c.in-Nowhere.is (c.in_ok-fail-in-Nowhere.ensures.shown c.args.setting.now.board.now)

pub returns-in_ok-open-in-Inside-clause-reached : goal.returns-in_ok-open-in-Inside-clause-reached
returns-in_ok-open-in-Inside-clause-reached c =
    leg_inside c.args.setting.now c.args.machine.now c.args.frame c.args.source.now c.if-machine-ge-MAX_LEGS.false c.args.template.now c.requires.url c.requires.inlines c.in_ok-url.field-0 c.in_ok-url.ensures
    (shown_machine c.args.setting.now.board.now c.open.new.machine) c.in-Inside.from c.in-Inside.to c.saturating_sub.result c.new.result c.in-Inside.is c.saturating_sub.ensures c.new.ensures
    (c.in_ok-open-in-Inside.ensures.shown c.args.setting.now.board.now)

pub returns-in_ok-enter-in-Found-clause-reached : goal.returns-in_ok-enter-in-Found-clause-reached
returns-in_ok-enter-in-Found-clause-reached c =
    leg_found c.args.setting.now c.args.machine.now c.args.frame c.args.source.now c.if-machine-ge-MAX_LEGS.false c.args.template.now c.requires.url c.requires.inlines c.in_ok-url.field-0 c.in_ok-url.ensures
    c.in-Found.number (shown_machine c.args.setting.now.board.now c.enter.new.machine) c.in-Found.is c.in_ok-enter-in-Found.ensures.shown

pub returns-in_ok-fail-in-Nowhere-clause-last : goal.returns-in_ok-fail-in-Nowhere-clause-last
returns-in_ok-fail-in-Nowhere-clause-last c =
    λ failed. last_nowhere c.args.setting.now c.args.machine.now c.args.frame c.args.source.now c.if-machine-ge-MAX_LEGS.false c.args.template.now c.requires.url c.requires.inlines c.in_ok-url.field-0 c.in_ok-url.ensures c.in-Nowhere.is

pub returns-in_ok-open-in-Inside-clause-last : goal.returns-in_ok-open-in-Inside-clause-last
returns-in_ok-open-in-Inside-clause-last c =
    λ failed. last_inside c.args.setting.now c.args.machine.now c.args.frame c.args.source.now c.if-machine-ge-MAX_LEGS.false c.args.template.now c.requires.url c.requires.inlines c.in_ok-url.field-0 c.in_ok-url.ensures c.in-Inside.from c.in-Inside.to c.in-Inside.is

pub returns-in_ok-enter-in-Found-clause-last : goal.returns-in_ok-enter-in-Found-clause-last
returns-in_ok-enter-in-Found-clause-last c =
    λ failed. last_found c.args.setting.now c.args.machine.now c.args.frame c.args.source.now c.if-machine-ge-MAX_LEGS.false c.args.template.now c.requires.url c.requires.inlines c.in_ok-url.field-0 c.in_ok-url.ensures c.in-Found.number _ c.in-Found.is c.in_ok-enter-in-Found.ensures.last
