use Rattle.std.proofs.Common.{◌∙◌, List, ℕ, ap, refl, sym, arith}
use Rattle.plan_compiler.specs.Shown.{step_of, steps_in}
use Rattle.plan_runner.specs.Ahead.{opened}
use Rattle.plan_runner.proofs.Walks.{nothing_ahead, bad_ahead, walk_of_plan, at_end, when_full, on, keeps_on, stays_within}
use Rattle.plan_runner.proofs.ahead.walk.Goals as goal

pub returns-in-Plain-clause-opens : goal.returns-in-Plain-clause-opens
returns-in-Plain-clause-opens c =
    ap (λ (ws : List (List ℕ)). opened c.args.opening.now.depth ws (record { board = c.args.board.now; room = c.args.room })) (sym (nothing_ahead c.args.opening.now.request.now c.args.opening.now.template.now (rw c.in-Plain.is at c.form.ensures)))

pub returns-in-BadAt-clause-opens : goal.returns-in-BadAt-clause-opens
returns-in-BadAt-clause-opens c =
    ap (λ (ws : List (List ℕ)). opened c.args.opening.now.depth ws (record { board = c.args.board.now; room = c.args.room })) (sym (bad_ahead c.args.opening.now.request.now c.args.opening.now.template.now _ (rw c.in-BadAt.is at c.form.ensures)))

pub loop-left-init : goal.loop-left-init
loop-left-init c = record {
  opens = ap (λ (ws : List (List ℕ)). opened c.args.opening.now.depth ws (record { board = c.args.board.now; room = c.args.room })) (walk_of_plan c.args.opening.now.request.now c.args.opening.now.template.now c.in-Planned.plan (rw c.in-Planned.is at c.form.ensures));
  keeps = λ n s here filled. here;
  log = refl;
  sound = c.requires.sound;
  few = omega arith;
  within = omega arith;
}

pub returns-in_default-clause-opens : goal.returns-in_default-clause-opens
returns-in_default-clause-opens c =
    at_end c.args.opening.now.request.now c.args.opening.now.template.now c.args.opening.now.depth (steps_in c.in-Planned.plan) c.loop-left.at _ _ (rw c.in_default.is at c.step.ensures) c.loop-left.invariant.opens

pub returns-clause-opens : goal.returns-clause-opens
returns-clause-opens c =
    when_full c.args.opening.now.request.now c.args.opening.now.template.now c.args.opening.now.depth (steps_in c.in-Planned.plan) c.loop-left.at c.loop-left.board c.loop-left.left _ (omega arith) c.loop-left.invariant.opens

pub returns-in_err-left-clause-keeps : goal.returns-in_err-left-clause-keeps
returns-in_err-left-clause-keeps c = keeps_on c.args.board.now c.loop-left.board c.visit.new.board c.loop-left.invariant.keeps c.in_err-left.ensures.keeps

pub overflow_add-at : goal.overflow_add-at
overflow_add-at c =
    let w = stays_within c.args.opening.now.request.now _ c.in-Planned.plan c.loop-left.at (step_of c.in-Some.step.now) (rw c.in-Planned.is at c.form.ensures).1 (rw c.in-Some.is at c.step.ensures) in
    omega (arith, w, c.passed.ensures, c.len.ensures)

pub overflow_add-at-in-loop-left : goal.overflow_add-at-in-loop-left
overflow_add-at-in-loop-left c =
    let w = stays_within c.args.opening.now.request.now _ c.in-Planned.plan c.loop-left.at (step_of c.in-Some.step.now) (rw c.in-Planned.is at c.form.ensures).1 (rw c.in-Some.is at c.step.ensures) in
    omega (arith, w, c.passed.ensures, c.len.ensures)

pub loop-left-smaller : goal.loop-left-smaller
loop-left-smaller c =
    let w = stays_within c.args.opening.now.request.now _ c.in-Planned.plan c.loop-left.at (step_of c.in-Some.step.now) (rw c.in-Planned.is at c.form.ensures).1 (rw c.in-Some.is at c.step.ensures) in
    omega (arith, w, c.passed.ensures)

pub loop-left-preserved : goal.loop-left-preserved
loop-left-preserved c =
    let here = rw c.in-Some.is at c.step.ensures in
    let w = stays_within c.args.opening.now.request.now _ c.in-Planned.plan c.loop-left.at (step_of c.in-Some.step.now) (rw c.in-Planned.is at c.form.ensures).1 here in
    record {
      opens =
          on c.args.opening.now.request.now c.args.opening.now.template.now c.args.opening.now.depth (steps_in c.in-Planned.plan) c.loop-left.at _ (step_of c.in-Some.step.now) _ _ _ here
          (omega (arith, c.passed.ensures)) c.in_ok-left.ensures.opens c.loop-left.invariant.opens;
      keeps = keeps_on c.args.board.now c.loop-left.board c.visit.new.board c.loop-left.invariant.keeps c.in_ok-left.ensures.keeps;
      log = c.in_ok-left.ensures.log ∙ c.loop-left.invariant.log;
      sound = c.in_ok-left.ensures.sound;
      few = omega (arith, c.in_ok-left.ensures.fewer, c.loop-left.invariant.few);
      within = omega (arith, w, c.passed.ensures);
    }
