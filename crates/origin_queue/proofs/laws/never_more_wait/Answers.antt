use Rattle.origin_queue.proofs.LawLemmas.{never_more_wait}
use Rattle.origin_queue.proofs.laws.never_more_wait.Goals as goal

pub returns : goal.returns
returns c = never_more_wait
