use Rattle.origin_queue.proofs.LawLemmas.{never_more_out}
use Rattle.origin_queue.proofs.laws.never_more_out.Goals as goal

pub returns : goal.returns
returns c = never_more_out
