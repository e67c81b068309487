use Rattle.page_http.proofs.SentLemmas.{carries_answers}
use Rattle.page_http.proofs.laws.answers_can_be_sent.Goals as goal

pub returns : goal.returns
returns c = carries_answers
