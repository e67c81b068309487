use Rattle.esi_meaning.proofs.LawLemmas.{failed_attempt_leaves_no_text}
use Rattle.esi_meaning.proofs.laws.failed_attempt_leaves_no_text.Goals as goal

pub returns : goal.returns
returns c = failed_attempt_leaves_no_text
