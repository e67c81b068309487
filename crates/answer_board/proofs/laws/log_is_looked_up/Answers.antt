use Rattle.answer_board.proofs.Log.{log-is-looked-up}
use Rattle.answer_board.proofs.laws.log_is_looked_up.Goals as goal

pub returns : goal.returns
returns c = log-is-looked-up
