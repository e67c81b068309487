use Rattle.esi_vars.proofs.FieldTheorems.{looks_up}
use Rattle.esi_vars.proofs.laws.first_part_of_a_name_counts.Goals as goal

pub returns : goal.returns
returns c = looks_up
