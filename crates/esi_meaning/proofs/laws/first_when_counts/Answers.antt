use Rattle.esi_meaning.proofs.ChoiceLaws.{first_when_counts, first_when_is_ahead}
use Rattle.esi_meaning.proofs.laws.first_when_counts.Goals as goal

pub returns-clause-run : goal.returns-clause-run
returns-clause-run c = first_when_counts

pub returns-clause-ahead : goal.returns-clause-ahead
returns-clause-ahead c = first_when_is_ahead
