use Rattle.std.proofs.Common.{◌+◌, ◌++◌, ◌∙◌, drop, ap}
use Rattle.template_check.specs.Warned.{warned, text_warning, text_warnings}
use Rattle.template_check.proofs.WarnedLemmas.{added, whole, text-step, text-end}
use Rattle.template_check.proofs.warned.add_text.Goals as goal

pub loop-i-preserved : goal.loop-i-preserved
loop-i-preserved c =
    let replaced = c.args.replaced in
    let start = c.args.place in
    let text = c.args.text.now in
    let i = c.loop-i.i in
    let found = c.loop-i.found.items in
    let judged = c.in_ok-warning.ensures ∙ ap (text_warning replaced) c.split_at.ensures.back in
    let more = c.in_ok-add.ensures ∙ ap (λ w. found ++ warned (start + i) w) judged in
    added c.args.found.now.items (text_warnings replaced start text) found c.add.new.found.items (warned (start + i) (text_warning replaced (drop i text))) (text_warnings replaced (start + i) (drop i text))
    (text_warnings replaced (start + (i + 1)) (drop (i + 1) text)) c.loop-i.invariant (text-step replaced start i text c.loop-i-test.true) more

pub returns : goal.returns
returns c =
    let replaced = c.args.replaced in
    let start = c.args.place in
    let text = c.args.text.now in
    let i = c.loop-i.i in
    whole c.args.found.now.items (text_warnings replaced start text) c.loop-i.found.items (text_warnings replaced (start + i) (drop i text)) c.loop-i.invariant
    (text-end replaced (start + i) i text c.loop-i-test.false)
