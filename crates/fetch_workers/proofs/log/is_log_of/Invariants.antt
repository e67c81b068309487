use Rattle.std.proofs.Common.{◌≡◌, ℕ, ◌<◌, length, option_map, slice_get}
use Rattle.answer_board.specs.Board.{log_of}
use Rattle.fetch_workers.specs.declared.log.Own.{Own}
use Rattle.fetch_workers.proofs.log.is_log_of.Given as goal

abbrev pub invariant-loop-i : goal.invariant-loop-i
invariant-loop-i l =
    (length l.page.board.filled ≡ length l.own)
    × ((k : ℕ) → k < l.i → slice_get (log_of l.page.board) k ≡ option_map (λ (o : Own). o.answer) (slice_get l.own k))
