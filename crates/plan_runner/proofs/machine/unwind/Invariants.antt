use Rattle.std.proofs.Common.{◌≡◌, length}
use Rattle.answer_board.specs.Board.{State}
use Rattle.plan_machine.specs.Machine.{unwound}
use Rattle.plan_runner.specs.Shown.{shown_frames, ArePlaced}
use Rattle.plan_runner.proofs.machine.unwind.Given as goal

abbrev pub invariant-loop-frame : goal.invariant-loop-frame
invariant-loop-frame l = record {
  legs : l.machine.legs ≡ l.fn.machine.legs;
  out : l.machine.out ≡ l.fn.machine.out;
  same : (board : State) → unwound l.fn.machine.legs l.fn.machine.out (shown_frames board l.fn.machine.frames) ≡ unwound l.fn.machine.legs l.fn.machine.out (shown_frames board l.machine.frames);
  placed : (board : State) → ArePlaced board l.fn.machine.frames → ArePlaced board l.machine.frames;
}

abbrev pub decreases-loop-frame : goal.decreases-loop-frame
decreases-loop-frame l = length l.machine.frames
