use Rattle.origin_queue.proofs.LawLemmas.{nobody_overtakes}
use Rattle.origin_queue.proofs.laws.nobody_overtakes.Goals as goal

pub returns : goal.returns
returns c = nobody_overtakes
