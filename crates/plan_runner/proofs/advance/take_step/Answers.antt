use Rattle.std.proofs.Common.{◌∙◌, ap, sym, List, Some, None, arith}
use Rattle.edge_types.specs.Answered.{body_of}
use Rattle.plan_compiler.specs.Shown.{step_of}
use Rattle.plan_runner.specs.declared.frames.Frame as code_frame
use Rattle.plan_runner.specs.Shown.{shown_frames, shown_machine}
use Rattle.plan_runner.proofs.LastLegs.{tried_of_frame}
use Rattle.plan_runner.proofs.Stepping.{reaches_same, short_step, step_none, step_of_frame}
use Rattle.plan_runner.proofs.advance.take_step.Goals as goal

pub returns-in_default-clause-reached : goal.returns-in_default-clause-reached
returns-in_default-clause-reached c =
    let b = c.args.setting.now.board.now in
    let m = c.args.machine.now in (
      step_none c.args.setting.now.request.now b m c.in_default.ensures.none.0,
      ap (λ (xs : List code_frame.Frame). record { frames = shown_frames b xs; out = m.out; legs = m.legs; failed = m.failed }) (c.in_default.ensures.none.1 ∙ sym c.in_default.ensures.none.0),
    )

pub run-requires-clause-short : goal.run-requires-clause-short
run-requires-clause-short c =
    let a = c.in-Some-prepared.template.now in
    let p = rw c.in-Planned.is at c.form.ensures in
    short_step (body_of a.reply) c.in-Planned.plan _ (step_of c.in-Some-step.step.now) _ _ p.1 c.in-Some-step.ensures c.len.ensures (omega arith)

pub returns-in_ok-reached-in-Some-step-clause-reached : goal.returns-in_ok-reached-in-Some-step-clause-reached
returns-in_ok-reached-in-Some-step-clause-reached c =
    let r = c.args.setting.now.request.now in
    let b = c.args.setting.now.board.now in
    let m = c.args.machine.now in
    let a = c.in-Some-prepared.template.now in
    let p = rw c.in-Planned.is at c.form.ensures in
    let is = step_of_frame r b m c.in-Some.frame c.pop.new.self a c.in-Planned.plan (Some (step_of c.in-Some-step.step.now)) c.in-Some.ensures.some (sym c.in-Some-prepared.ensures) p.1 c.in-Some-step.ensures in
    let back = ap (λ (xs : List code_frame.Frame). record { frames = shown_frames b xs; out = m.out; legs = m.legs; failed = m.failed }) (sym c.in-Some.ensures.some) in
    reaches_same _ _ _ (shown_machine b m) (shown_machine b c.run.new.machine) c.in_ok-reached-in-Some-step.reached (sym is) back c.in_ok-reached-in-Some-step.ensures.reached

pub returns-in_ok-push-in-None-clause-reached : goal.returns-in_ok-push-in-None-clause-reached
returns-in_ok-push-in-None-clause-reached c =
    let r = c.args.setting.now.request.now in
    let b = c.args.setting.now.board.now in
    let m = c.args.machine.now in
    let a = c.in-Some-prepared.template.now in
    let p = rw c.in-Planned.is at c.form.ensures in
    let is = step_of_frame r b m c.in-Some.frame c.pop.new.self a c.in-Planned.plan None c.in-Some.ensures.some (sym c.in-Some-prepared.ensures) p.1 c.in-None.ensures in
    let back = ap (λ (xs : List code_frame.Frame). record { frames = shown_frames b xs; out = m.out; legs = m.legs; failed = m.failed }) (c.in_ok-push-in-None.ensures ∙ sym c.in-Some.ensures.some) in
    (is, back)

pub returns-in_ok-reached-in-Some-step-clause-last : goal.returns-in_ok-reached-in-Some-step-clause-last
returns-in_ok-reached-in-Some-step-clause-last c =
    let r = c.args.setting.now.request.now in
    let b = c.args.setting.now.board.now in
    let m = c.args.machine.now in
    let p = rw c.in-Planned.is at c.form.ensures in
    let is = tried_of_frame r b c.in-Some.frame m.frames c.pop.new.self c.in-Some-prepared.template.now c.in-Planned.plan (Some (step_of c.in-Some-step.step.now)) c.in-Some.ensures.some (sym c.in-Some-prepared.ensures) p.1 c.in-Some-step.ensures in
    rw is c.in_ok-reached-in-Some-step.ensures.last
