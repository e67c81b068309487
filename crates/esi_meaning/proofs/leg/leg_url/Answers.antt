use Rattle.std.proofs.Common.{sym, ap, ◌∙◌, option_map}
use Rattle.esi_meaning.proofs.Legs.{resolved_none}
use Rattle.esi_meaning.proofs.leg.leg_url.Goals as goal

pub returns-in-None : goal.returns-in-None
returns-in-None c = resolved_none _ _ (sym (ap (option_map (λ text. text.items)) c.in-None.is) ∙ c.in_ok-text.ensures)
