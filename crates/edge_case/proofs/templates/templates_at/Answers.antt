use Rattle.std.proofs.Common.{sym, ap, ◌∙◌, ◌++◌}
use Rattle.edge_case.specs.Reading.{shown_entry}
use Rattle.edge_case.specs.Templates.{template_of}
use Rattle.edge_case.proofs.Entries.{entry_shorter}
use Rattle.edge_case.proofs.TemplateLemmas.{goes_on, ends}
use Rattle.edge_case.proofs.templates.templates_at.Goals as goal

pub loop-entry-smaller : goal.loop-entry-smaller
loop-entry-smaller c = entry_shorter c.loop-entry.rest.now (shown_entry c.in-Some.entry, c.in-Some.after.now) (sym c.in-Some.ensures)

pub loop-entry-preserved : goal.loop-entry-preserved
loop-entry-preserved c = λ table reads.
    goes_on c.loop-entry.found.items c.keep_template.new.found.items c.loop-entry.rest.now c.in-Some.after.now (shown_entry c.in-Some.entry) table c.in-Some.ensures
    (c.loop-entry.invariant table reads) (c.in_ok-keep_template.ensures ∙ ap (λ answer. c.loop-entry.found.items ++ template_of answer) c.in_ok-answer.ensures)

pub returns : goal.returns
returns c = λ table reads. ends c.loop-entry.found.items c.loop-entry.rest.now table c.in_default.ensures (c.loop-entry.invariant table reads)
