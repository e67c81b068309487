use Rattle.page_http.proofs.SentLemmas.{tells_one_thing}
use Rattle.page_http.proofs.laws.outcomes_are_told_in_one_way.Goals as goal

pub returns : goal.returns
returns c = tells_one_thing
