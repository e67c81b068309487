use Rattle.failed_answers.proofs.LawLemmas.{answer_ends_rest}
use Rattle.failed_answers.proofs.laws.an_answer_ends_the_rest.Goals as goal

pub returns : goal.returns
returns c = answer_ends_rest
