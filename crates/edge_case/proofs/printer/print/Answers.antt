use Rattle.std.proofs.Common.{◌≡◌, ◌++◌, List, ℕ, refl, subst}
use Rattle.edge_types.specs.Outcome.{shown}
use Rattle.edge_types.specs.Pieces.{joined}
use Rattle.edge_case.specs.Bytes.{AppendsPart}
use Rattle.edge_case.specs.Printed.{printed}
use Rattle.edge_case.proofs.printer.print.Goals as goal

pub returns-in_err-write_page-in-Page-clause-failed : goal.returns-in_err-write_page-in-Page-clause-failed
returns-in_err-write_page-in-Page-clause-failed g c = λ failed.
    let form : c.deref.result.now ++ joined c.in-Page.body ≡ printed (shown c.args.outcome.now) =
    rw (c.in-Page.is, c.deref.ensures.value, c.in_ok-line-in-Page.ensures, c.len.ensures) refl in
    subst (λ (t : List ℕ). AppendsPart (g.W.Write.contents c.args.writer.now) (g.W.Write.contents c.write_page.new.writer) t) form c.in_err-write_page-in-Page.ensures.err
