use Rattle.std.proofs.Common.{sym, ◌∙◌, ap, Some, List, get_or}
use Rattle.edge_types.specs.Answered.{Answered}
use Rattle.edge_types.specs.Table.{is_of}
use Rattle.edge_types.proofs.TableLemmas.{find-none, find-some}
use Rattle.edge_types.proofs.table.Table.get.Goals as goal

pub returns-in-Some-clause-some : goal.returns-in-Some-clause-some
returns-in-Some-clause-some c =
    find-some (is_of c.args.url.now) c.args.self.now c.in-Some.at c.index.result.now (sym c.in-Some.ensures.value)
    ∙ ap Some (ap (λ (answers : List Answered). get_or answers c.in-Some.at c.index.result.now) (sym c.self.view_is) ∙ sym c.index.ensures ∙ sym c.as_arc.ensures)

pub returns-in-None-clause-none : goal.returns-in-None-clause-none
returns-in-None-clause-none c = find-none (is_of c.args.url.now) c.args.self.now (sym c.in-None.ensures.value)
