use Rattle.std.proofs.Common.{◌+◌, ◌++◌, ◌∙◌, drop, ap}
use Rattle.template_check.specs.Warned.{each_warning, warned}
use Rattle.template_check.proofs.WarnedLemmas.{added, whole, each-step, each-end}
use Rattle.template_check.proofs.warned.add_each.Goals as goal

pub loop-warning-preserved : goal.loop-warning-preserved
loop-warning-preserved c =
    let place = c.args.place in
    let tag = c.args.tag.now in
    let all = c.args.warnings.now in
    let i = c.loop-warning.warning-index in
    let found = c.loop-warning.found.items in
    let more = c.in_ok-add.ensures ∙ ap (λ w. found ++ warned place w) c.due.ensures in
    added c.args.found.now.items (each_warning place tag all) found c.add.new.found.items _ (each_warning place tag (drop i all)) (each_warning place tag (drop (i + 1) all)) c.loop-warning.invariant
    (each-step place tag i _ all c.loop-warning-test.true) more

pub returns : goal.returns
returns c =
    let place = c.args.place in
    let tag = c.args.tag.now in
    let all = c.args.warnings.now in
    let i = c.loop-warning.warning-index in
    whole c.args.found.now.items (each_warning place tag all) c.loop-warning.found.items (each_warning place tag (drop i all)) c.loop-warning.invariant (each-end place tag i all c.loop-warning-test.false)
