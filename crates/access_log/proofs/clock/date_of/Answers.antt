use Rattle.std.proofs.Common.{◌≡◌, ◌∙◌}
use Rattle.std.proofs.lemmas.Result.{IfOk-at_ok}
use Rattle.httpdate.specs.Date.{unix_secs}
use Rattle.httpdate.specs.declared.date.HttpDate.{HttpDate}
use Rattle.access_log.proofs.clock.date_of.Goals as goal

pub returns : goal.returns
returns c =
    let dated = IfOk-at_ok (λ (date : HttpDate). unix_secs date ≡ c.min.result) c.unwrap-date.ensures c.from_unix_secs.ensures.value in
    (c.unwrap-date.result, dated ∙ c.min.ensures, c.to_bytes.ensures)
