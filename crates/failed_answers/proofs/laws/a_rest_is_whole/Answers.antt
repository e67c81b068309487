use Rattle.failed_answers.proofs.LawLemmas.{rests_whole}
use Rattle.failed_answers.proofs.laws.a_rest_is_whole.Goals as goal

pub returns : goal.returns
returns c = rests_whole
