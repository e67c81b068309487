use Rattle.esi_vars.proofs.SearchLemmas.{begins_behind_lack}
use Rattle.esi_vars.proofs.field.from_name.Goals as goal

pub returns : goal.returns
returns c = begins_behind_lack c.args.end c.in_ok-place.place c.args.text.now c.args.name.now c.from_part.result.now c.in_ok-place.ensures.0.before c.from_part.ensures
