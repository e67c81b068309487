use Rattle.template_check.proofs.PositionLemmas.{line-counted}
use Rattle.template_check.proofs.laws.lines_are_counted.Goals as goal

pub returns : goal.returns
returns c = line-counted
