use Rattle.std.proofs.Common.{Some, None, sym, ◌∙◌, codes, bytes_eq}
use Rattle.std.proofs.lemmas.Bool.{cond-true, cond-false}
use Rattle.edge_case.specs.Reading.{shown_entry}
use Rattle.edge_case.proofs.Entries.{entry_shorter}
use Rattle.edge_case.proofs.AnswersLemmas.{answers_on, answers_refused, answers_end, taken, not_taken}
use Rattle.edge_case.proofs.answers.answers_at.Goals as goal

pub returns-then-not-branch : goal.returns-then-not-branch
returns-then-not-branch c =
    sym (sym c.loop-entry.invariant ∙ answers_refused c.loop-entry.table c.loop-entry.rest.now c.in-Some.after.now (shown_entry c.in-Some.entry) c.in-Some.ensures
    (not_taken c.in_ok-add_entry.field-0 _ c.add_entry.new.table c.in_ok-add_entry.ensures c.if-not-branch.true))

pub loop-entry-smaller : goal.loop-entry-smaller
loop-entry-smaller c = entry_shorter c.loop-entry.rest.now (shown_entry c.in-Some.entry, c.in-Some.after.now) (sym c.in-Some.ensures)

pub loop-entry-preserved : goal.loop-entry-preserved
loop-entry-preserved c =
    sym (answers_on c.loop-entry.table c.add_entry.new.table c.loop-entry.rest.now c.in-Some.after.now (shown_entry c.in-Some.entry) c.in-Some.ensures
    (taken c.in_ok-add_entry.field-0 _ c.add_entry.new.table c.in_ok-add_entry.ensures c.if-not-branch.false)) ∙ c.loop-entry.invariant

pub returns-then-eq : goal.returns-then-eq
returns-then-eq c =
    let end = answers_end c.loop-entry.table c.loop-entry.rest.now c.in_default.ensures in
    sym (sym c.loop-entry.invariant ∙ end ∙ cond-true (bytes_eq c.loop-entry.rest.now (codes "end\n")) (Some c.loop-entry.table) None (sym c.if-eq.ensures))

pub returns-else-eq : goal.returns-else-eq
returns-else-eq c =
    let end = answers_end c.loop-entry.table c.loop-entry.rest.now c.in_default.ensures in
    sym (sym c.loop-entry.invariant ∙ end ∙ cond-false (bytes_eq c.loop-entry.rest.now (codes "end\n")) (Some c.loop-entry.table) None (sym c.if-eq.ensures))
