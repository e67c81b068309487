use Rattle.plan_compiler.proofs.Entries.{first_entry_counts}
use Rattle.plan_compiler.proofs.laws.first_entry_counts.Goals as goal

pub returns : goal.returns
returns c = first_entry_counts
