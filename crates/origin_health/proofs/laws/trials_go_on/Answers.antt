use Rattle.origin_health.proofs.LawLemmas.{trials_go_on}
use Rattle.origin_health.proofs.laws.trials_go_on.Goals as goal

pub returns : goal.returns
returns c = trials_go_on
