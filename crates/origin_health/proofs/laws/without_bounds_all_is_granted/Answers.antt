use Rattle.origin_health.proofs.LawLemmas.{unbounded_grants}
use Rattle.origin_health.proofs.laws.without_bounds_all_is_granted.Goals as goal

pub returns : goal.returns
returns c = unbounded_grants
