use Rattle.origin_health.proofs.LawLemmas.{never_more}
use Rattle.origin_health.proofs.laws.never_more_in_flight.Goals as goal

pub returns : goal.returns
returns c = never_more
