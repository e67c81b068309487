use Rattle.esi_meaning.proofs.LegalLaws.{legal_grows, waited_for_follows, ahead_follows}
use Rattle.esi_meaning.proofs.laws.legal_logs.Goals as goal

pub returns-clause-grows : goal.returns-clause-grows
returns-clause-grows c = legal_grows

pub returns-clause-waited : goal.returns-clause-waited
returns-clause-waited c = waited_for_follows

pub returns-clause-ahead : goal.returns-clause-ahead
returns-clause-ahead c = ahead_follows
