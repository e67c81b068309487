use Rattle.answer_board.proofs.Stays.{slots-stay}
use Rattle.answer_board.proofs.laws.slots_stay.Goals as goal

pub returns : goal.returns
returns c = slots-stay
