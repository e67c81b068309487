use Rattle.esi_scanner.proofs.Theorems.{spells-once}
use Rattle.esi_scanner.proofs.laws.a_text_has_one_list_of_tokens.Goals as goal

pub returns : goal.returns
returns c = spells-once
