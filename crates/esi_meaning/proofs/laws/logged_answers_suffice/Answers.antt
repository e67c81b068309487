use Rattle.esi_meaning.proofs.StateLemmas.{logged_answers_suffice}
use Rattle.esi_meaning.proofs.laws.logged_answers_suffice.Goals as goal

pub returns : goal.returns
returns c = logged_answers_suffice
