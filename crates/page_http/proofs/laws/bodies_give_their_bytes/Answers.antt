use Rattle.page_http.proofs.FrameLemmas.{gives_its_bytes}
use Rattle.page_http.proofs.laws.bodies_give_their_bytes.Goals as goal

pub returns : goal.returns
returns c = gives_its_bytes
