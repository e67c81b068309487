use Rattle.esi_vars.proofs.AgentTheorems.{finds_the_first, finds_none}
use Rattle.esi_vars.proofs.laws.words_are_found_first.Goals as goal

pub returns-clause-found : goal.returns-clause-found
returns-clause-found c = finds_the_first

pub returns-clause-none : goal.returns-clause-none
returns-clause-none c = finds_none
