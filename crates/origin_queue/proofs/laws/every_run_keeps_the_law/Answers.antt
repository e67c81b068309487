use Rattle.origin_queue.proofs.LawLemmas.{queue_law}
use Rattle.origin_queue.proofs.laws.every_run_keeps_the_law.Goals as goal

pub returns : goal.returns
returns c = queue_law
