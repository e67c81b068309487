use Rattle.esi_vars.proofs.Theorems.{parts_spell, parts_are_one}
use Rattle.esi_vars.proofs.laws.parts_spell_the_text.Goals as goal

pub returns-clause-spell : goal.returns-clause-spell
returns-clause-spell c = parts_spell

pub returns-clause-one : goal.returns-clause-one
returns-clause-one c = parts_are_one
