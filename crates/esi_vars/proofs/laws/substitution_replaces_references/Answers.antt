use Rattle.std.proofs.Common.{[]}
use Rattle.esi_vars.proofs.Theorems.{substitutes_text}
use Rattle.esi_vars.proofs.ValuesLemmas.{joined_values}
use Rattle.esi_vars.proofs.laws.substitution_replaces_references.Goals as goal

pub returns-clause-text : goal.returns-clause-text
returns-clause-text c = substitutes_text

pub returns-clause-pieces : goal.returns-clause-pieces
returns-clause-pieces c request parts = joined_values request [] parts
