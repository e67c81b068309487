use Rattle.template_check.proofs.RefusalLemmas.{reasons_are_true}
use Rattle.template_check.proofs.laws.reasons_are_true.Goals as goal

pub returns : goal.returns
returns c = reasons_are_true
