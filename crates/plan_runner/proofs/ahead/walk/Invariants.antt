use Rattle.std.proofs.Common.{◌≡◌, zero, ◌+◌, ◌-◌, ◌≤◌, length, drop, filter_map}
use Rattle.esi_meaning.specs.Ahead.{ahead_of}
use Rattle.answer_board.specs.Board.{KeepsFilled, log_of}
use Rattle.answer_board.specs.Sound.{IsBoard}
use Rattle.plan_compiler.specs.Ahead.{sources_from}
use Rattle.plan_compiler.specs.Shown.{steps_in}
use Rattle.plan_runner.specs.Ahead.{opened}
use Rattle.plan_runner.specs.Walk.{asked_by}
use Rattle.plan_runner.proofs.ahead.walk.Given as goal

abbrev pub invariant-loop-left : goal.invariant-loop-left
invariant-loop-left l = record {
  opens : opened l.opening.depth (filter_map (asked_by l.opening.request.now l.opening.template.now) (sources_from l.opening.request.now zero (drop l.at (steps_in l.plan)))) (record { board = l.board; room = l.left })
      ≡ opened l.opening.depth (ahead_of l.opening.request.now l.opening.template.now) (record { board = l.fn.board; room = l.fn.room });
  keeps : KeepsFilled l.fn.board l.board;
  log : log_of l.board ≡ log_of l.fn.board;
  sound : IsBoard l.board;
  few : length l.board.slots + l.left ≤ length l.fn.board.slots + l.fn.room;
  within : l.at ≤ length (steps_in l.plan);
}

abbrev pub decreases-loop-left : goal.decreases-loop-left
decreases-loop-left l = length (steps_in l.plan) - l.at
