use Rattle.template_check.proofs.PositionLemmas.{column-counted}
use Rattle.template_check.proofs.laws.columns_are_counted.Goals as goal

pub returns : goal.returns
returns c = column-counted
