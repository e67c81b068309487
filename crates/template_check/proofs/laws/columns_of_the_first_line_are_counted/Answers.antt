use Rattle.template_check.proofs.PositionLemmas.{first-counted}
use Rattle.template_check.proofs.laws.columns_of_the_first_line_are_counted.Goals as goal

pub returns : goal.returns
returns c = first-counted
