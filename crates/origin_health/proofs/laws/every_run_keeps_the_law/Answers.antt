use Rattle.origin_health.proofs.LawLemmas.{health_law}
use Rattle.origin_health.proofs.laws.every_run_keeps_the_law.Goals as goal

pub returns : goal.returns
returns c = health_law
