use Rattle.std.proofs.Common.{◌∙◌, ap, sym}
use Rattle.std.specs.List.{list_any}
use Rattle.template_check.specs.Chosen.{is_end}
use Rattle.template_check.proofs.ChosenLemmas.{chosen-end, chosen-ended, chosen-found, chosen-further, chosen-passed}
use Rattle.template_check.proofs.chosen.is_chosen.Goals as goal
use Rattle.template_check.proofs.chosen.is_chosen.Goals.{in-Reference+else-is_written, in-Text+else-ends_path}

pub returns-then-is_written : goal.returns-then-is_written
returns-then-is_written c =
    sym (chosen-found c.loop-part.part-index c.part-item.result c.args.parts.now c.in-Reference.reference c.loop-part-test.true (sym c.part-item.is ∙ c.in-Reference.is) (sym c.is_written.ensures ∙ c.if-is_written.true)) ∙ c.loop-part.invariant

pub returns-then-ends_path : goal.returns-then-ends_path
returns-then-ends_path c =
    let ends = ap (list_any is_end) (sym c.as_bytes.ensures) ∙ sym c.ends_path.ensures ∙ c.if-ends_path.true in
    sym (chosen-ended c.loop-part.part-index c.part-item.result c.args.parts.now c.in-Text.text c.loop-part-test.true (sym c.part-item.is ∙ c.in-Text.is) ends) ∙ c.loop-part.invariant

pub loop-part-preserved : goal.loop-part-preserved
loop-part-preserved c =
    let parts = c.args.parts.now in
    let i = c.loop-part.part-index in
    let part = c.part-item.result in
    let within = c.loop-part-test.true in
    elim c.match-part.branch [
      | in-Reference+else-is_written w ↦ chosen-passed i part parts w.in-Reference.reference within (sym c.part-item.is ∙ w.in-Reference.is) (sym w.is_written.ensures ∙ w.if-is_written.false) ∙ c.loop-part.invariant
      | in-Text+else-ends_path w ↦
          chosen-further i part parts w.in-Text.text within (sym c.part-item.is ∙ w.in-Text.is) (ap (list_any is_end) (sym w.as_bytes.ensures) ∙ sym w.ends_path.ensures ∙ w.if-ends_path.false) ∙ c.loop-part.invariant
    ]

pub returns : goal.returns
returns c = sym (chosen-end c.loop-part.part-index c.args.parts.now c.loop-part-test.false) ∙ c.loop-part.invariant
