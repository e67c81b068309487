use Rattle.page_http.proofs.HeadLemmas.{asks_once}
use Rattle.page_http.proofs.laws.heads_ask_for_one_page.Goals as goal

pub returns : goal.returns
returns c = asks_once
