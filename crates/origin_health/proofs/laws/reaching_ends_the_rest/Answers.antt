use Rattle.origin_health.proofs.LawLemmas.{reach_ends_rest}
use Rattle.origin_health.proofs.laws.reaching_ends_the_rest.Goals as goal

pub returns : goal.returns
returns c = reach_ends_rest
