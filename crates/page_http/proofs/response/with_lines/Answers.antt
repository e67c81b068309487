use Rattle.std.proofs.Common.{◌≡◌, ◌∙◌, refl, rules}
use Rattle.http_header.specs.FieldValue.{plain_value}
use Rattle.http_header.specs.HeaderMap.{append}
use Rattle.page_http.specs.Sent.{IsLine}
use Rattle.page_http.proofs.SentLemmas.{lines-step}
use Rattle.page_http.proofs.response.with_lines.Goals as goal

pub loop-lines-preserved : goal.loop-lines-preserved
loop-lines-preserved c =
    let first = c.first-item.result in
    let one : IsLine first × (c.in-Some.more ≡ append c.loop-lines.fields first.name (plain_value first.value)) = search rules in
    let step = lines-step c.loop-lines.fields c.in-Some.more first c.loop-lines.lines.now _ (search rules) c.first-item.is refl one.0 one.1 in
    let so_far = c.loop-lines.invariant in
    (step.0 ∙ so_far.0, ((λ h. so_far.1.0 (step.1.0 h)), (λ h. step.1.1 (so_far.1.1 h))))
