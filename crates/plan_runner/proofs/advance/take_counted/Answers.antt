use Rattle.answer_board.specs.Board.{log_of}
use Rattle.plan_runner.specs.Shown.{shown_machine}
use Rattle.plan_runner.proofs.Advancing.{stands_more}
use Rattle.plan_machine.proofs.Progress.{step_leaves}
use Rattle.plan_runner.proofs.advance.take_counted.Goals as goal

pub returns-in-Went-clause-stands : goal.returns-in-Went-clause-stands
returns-in-Went-clause-stands c =
    let r = c.args.setting.now.request.now in
    let b = c.args.setting.now.board.now in
    let went = rw c.in-Went.is at c.in_ok-stop.ensures.reached in
    λ first s. stands_more r b first c.args.progress.now (record { machine = c.take_step.new.machine; steps = c.saturating_add-progress.result }) s went c.saturating_add-progress.ensures

pub returns-in-Went-clause-falls : goal.returns-in-Went-clause-falls
returns-in-Went-clause-falls c =
    let went = rw c.in-Went.is at c.in_ok-stop.ensures.reached in
    (step_leaves c.args.setting.now.request.now (log_of c.args.setting.now.board.now) _ _ c.requires.ready went).0

pub returns-in-Went-clause-ready : goal.returns-in-Went-clause-ready
returns-in-Went-clause-ready c =
    let went = rw c.in-Went.is at c.in_ok-stop.ensures.reached in
    (step_leaves c.args.setting.now.request.now (log_of c.args.setting.now.board.now) (shown_machine c.args.setting.now.board.now c.args.progress.now.machine) _ c.requires.ready went).1

pub returns-in-Went-clause-fails : goal.returns-in-Went-clause-fails
returns-in-Went-clause-fails c =
    let r = c.args.setting.now.request.now in
    let b = c.args.setting.now.board.now in
    let went = rw c.in-Went.is at c.in_ok-stop.ensures.reached in
    let last = rw c.in-Went.is at c.in_ok-stop.ensures.last in
    λ first s before failed. record {
      count = s.count;
      before = shown_machine b c.args.progress.now.machine;
      failed = shown_machine b c.take_step.new.machine;
      there = s.there;
      fails = went;
      is_failed = failed;
      is_last = last failed;
    }
