use Rattle.std.proofs.Common.{◌-◌}
use Rattle.plan_machine.specs.Machine.{Machine}
use Rattle.plan_machine.specs.Progress.{Ready}
use Rattle.plan_runner.specs.LastLeg.{FailsAt}
use Rattle.plan_runner.specs.Resumed.{StandsAt}
use Rattle.plan_runner.specs.Shown.{shown_frames, ArePlaced}
use Rattle.plan_runner.proofs.advance.advance.Given as goal

abbrev pub invariant-loop-stop : goal.invariant-loop-stop
invariant-loop-stop l = record {
  stands : (first : Machine) → StandsAt l.setting.request.now l.setting.board.now first l.fn.progress → StandsAt l.setting.request.now l.setting.board.now first l.progress;
  fails : (first : Machine) → StandsAt l.setting.request.now l.setting.board.now first l.fn.progress → FailsAt l.setting.request.now l.setting.board.now first l.fn.progress.machine → FailsAt l.setting.request.now l.setting.board.now first l.progress.machine;
  placed : ArePlaced l.setting.board.now l.progress.machine.frames;
  ready : Ready l.progress.machine.failed (shown_frames l.setting.board.now l.progress.machine.frames);
}

abbrev pub decreases-loop-stop : goal.decreases-loop-stop
decreases-loop-stop l = 1000 - l.progress.machine.legs
