use Rattle.std.specs.Arc.{arc_value}
use Rattle.failed_answers.proofs.NameLemmas.{found_named}
use Rattle.failed_answers.proofs.failed_answers.FailedAnswers.failing.Goals as goal

pub returns-clause-named : goal.returns-clause-named
returns-clause-named c = found_named arc_value c.self.inside.entries.entries c.args.url.now c.args.now c.before_end.result c.sound.ensures.named c.before_end.ensures.ok
