use Rattle.std.proofs.Common.{codes}
use Rattle.http.specs.Request.{builder_result}
use Rattle.origin_http.proofs.AskingLemmas.{adds_line}
use Rattle.origin_http.proofs.request.uncoded.Goals as goal

pub returns : goal.returns
returns c =
    adds_line (builder_result c.args.request) (builder_result c.header.result) (codes "accept-encoding") (codes "identity") _ _
    c.header.ensures.ok c.header.ensures.others (λ x is. is) (λ x is. is)
