use Rattle.esi_vars.proofs.FieldLemmas.{cuts, uncut}
use Rattle.esi_vars.proofs.field.first_part.Goals as goal

pub returns-in-Some-clause-value : goal.returns-in-Some-clause-value
returns-in-Some-clause-value c = (cuts _ _ _ _ c.in-Some.ensures.value).parts

pub returns-in-Some-clause-shorter : goal.returns-in-Some-clause-shorter
returns-in-Some-clause-shorter c = c.in-Some.ensures.shorter

pub returns-in-None-clause-value : goal.returns-in-None-clause-value
returns-in-None-clause-value c = uncut _ _ c.in-None.ensures.value
