use Rattle.esi_meaning.proofs.LawLemmas.{attempt_with_text_stands}
use Rattle.esi_meaning.proofs.laws.attempt_with_text_stands.Goals as goal

pub returns : goal.returns
returns c = attempt_with_text_stands
