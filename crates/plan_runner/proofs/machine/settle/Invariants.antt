use Rattle.std.proofs.Common.{◌≡◌, length}
use Rattle.answer_board.specs.Board.{State}
use Rattle.plan_machine.specs.Machine.{settled}
use Rattle.plan_runner.specs.Shown.{shown_frames, ArePlaced}
use Rattle.plan_runner.proofs.machine.settle.Given as goal

abbrev pub invariant-loop-top : goal.invariant-loop-top
invariant-loop-top l = record {
  same : (board : State) → settled (shown_frames board l.fn.frames) ≡ settled (shown_frames board l.frames);
  placed : (board : State) → ArePlaced board l.fn.frames → ArePlaced board l.frames;
}

abbrev pub decreases-loop-top : goal.decreases-loop-top
decreases-loop-top l = length l.frames
