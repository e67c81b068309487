use Rattle.origin_health.proofs.LawLemmas.{rests_whole}
use Rattle.origin_health.proofs.laws.a_rest_is_whole.Goals as goal

pub returns : goal.returns
returns c = rests_whole
