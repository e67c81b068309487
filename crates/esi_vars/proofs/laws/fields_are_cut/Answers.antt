use Rattle.edge_types.proofs.TrimLemmas.{trims_texts}
use Rattle.esi_vars.proofs.FieldTheorems.{cuts_fields, cuts_once}
use Rattle.esi_vars.proofs.laws.fields_are_cut.Goals as goal

pub returns-clause-parts : goal.returns-clause-parts
returns-clause-parts c = cuts_fields

pub returns-clause-trimmed : goal.returns-clause-trimmed
returns-clause-trimmed c = trims_texts

pub returns-clause-halves : goal.returns-clause-halves
returns-clause-halves c = cuts_once
