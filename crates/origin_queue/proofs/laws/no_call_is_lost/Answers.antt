use Rattle.origin_queue.proofs.LawLemmas.{no_call_is_lost}
use Rattle.origin_queue.proofs.laws.no_call_is_lost.Goals as goal

pub returns : goal.returns
returns c = no_call_is_lost
