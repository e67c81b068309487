use Rattle.std.proofs.lemmas.Result.{IfOk-weaker}
use Rattle.access_log.proofs.Dates.{printed}
use Rattle.access_log.proofs.line.report_of.Goals as goal

pub dated_report-requires : goal.dated_report-requires
dated_report-requires c = printed c.args.second c.date_of-date.result c.date_of-date.ensures

pub returns-clause-line : goal.returns-clause-line
returns-clause-line c = IfOk-weaker c.dated_report.result _ _ (λ line is. (c.date_of-date.result, c.date_of-date.ensures, is)) c.dated_report.ensures.line
