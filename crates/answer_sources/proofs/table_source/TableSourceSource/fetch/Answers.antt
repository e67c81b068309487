use Rattle.std.proofs.Common.{rules}
use Rattle.std.specs.Arc.{arc_value}
use Rattle.answer_sources.proofs.Replies.{is_replied}
use Rattle.answer_sources.proofs.table_source.TableSourceSource.fetch.Goals as goal

pub returns-in_ok-try_clone-in-Some : goal.returns-in_ok-try_clone-in-Some
returns-in_ok-try_clone-in-Some g c =
    let is = is_replied c.self.inside.table c.args.url.now (arc_value c.in-Some.answer.now) c.in-Some.ensures.some in
    search rules
