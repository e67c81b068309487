use Rattle.std.proofs.lemmas.Result.{IfOk-weaker}
use Rattle.access_log.proofs.Dates.{printed}
use Rattle.access_log.proofs.line.line_of.Goals as goal

pub dated_line-requires : goal.dated_line-requires
dated_line-requires c = printed c.args.second c.date_of-date.result c.date_of-date.ensures

pub returns-clause-line : goal.returns-clause-line
returns-clause-line c = IfOk-weaker c.dated_line.result _ _ (λ line is. (c.date_of-date.result, c.date_of-date.ensures, is)) c.dated_line.ensures.line
