use Rattle.template_check.proofs.NeedLemmas.{tests_are_read_to_their_end}
use Rattle.template_check.proofs.laws.tests_are_read_to_their_end.Goals as goal

pub returns : goal.returns
returns c = tests_are_read_to_their_end
