use Rattle.std.proofs.lemmas.Result.{IfOk-weaker}
use Rattle.edge_case.proofs.TemplateLemmas.{behind_heading, no_heading}
use Rattle.edge_case.proofs.templates.templates_in.Goals as goal

pub returns-in-Some : goal.returns-in-Some
returns-in-Some c =
    IfOk-weaker c.templates_at.result _ _ (λ found is case says. is case.table (behind_heading c.args.text.now _ _ case c.in-Some.ensures says)) c.templates_at.ensures

pub returns-in-None : goal.returns-in-None
returns-in-None c = λ case says. absurd (no_heading c.args.text.now case c.in-None.ensures says)
