-- What is kept to its reader, where it is, is what may get a tag.
use Rattle.std.proofs.Common.{◌∙◌, ap, codes}
use Rattle.http_header.specs.HeaderMap.{get_all}
use Rattle.page_http.specs.Sent.{Sent}
use Rattle.page_readers.specs.Validators.{finished}
use Rattle.hyper_edge.proofs.service.EdgeService.finished.Goals as goal

pub returns-clause-response : goal.returns-clause-response
returns-clause-response g c =
    let kept = rw (c.source.ensures, c.as_slice.ensures.value) at c.in_ok-response.ensures in
    c.in_ok-response-2.ensures
    ∙ ap (λ (response : Sent). finished c.args.self.now.gives_tags c.args.responded.reason (get_all c.args.fields.now (codes "if-none-match")) response) kept
