use Rattle.std.proofs.Common.{codes, ap, ◌∙◌}
use Rattle.http_header.specs.Token.{lowercase}
use Rattle.http.specs.Request.{builder_result}
use Rattle.origin_http.proofs.AskingLemmas.{adds_line}
use Rattle.origin_http.proofs.request.for_device.Goals as goal

pub returns : goal.returns
returns c =
    adds_line (builder_result c.args.request) (builder_result c.header.result) (codes "surrogate-capability") c.args.capability.now _ _
    c.header.ensures.ok c.header.ensures.others (λ x is. is ∙ ap lowercase c.own_capability.ensures.name) (λ x is. is)
