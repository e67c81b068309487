use Rattle.fragment_cache.proofs.LawLemmas.{cache_law}
use Rattle.fragment_cache.proofs.laws.every_run_keeps_the_law.Goals as goal

pub returns : goal.returns
returns c = cache_law
