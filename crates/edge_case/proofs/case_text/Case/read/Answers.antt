use Rattle.std.proofs.Common.{◌≡◌, IfSome}
use Rattle.std.specs.Option.{IfNone}
use Rattle.std.proofs.lemmas.Result.{IfOk-weaker}
use Rattle.edge_case.specs.declared.case_text.Case.{Case}
use Rattle.edge_case.specs.Case.{IsCaseText}
use Rattle.edge_case.specs.Reading.{case_of}
use Rattle.edge_case.proofs.CaseLemmas.{found_is, none_is}
use Rattle.edge_case.proofs.case_text.Case.read.Goals as goal

pub returns-clause-found : goal.returns-clause-found
returns-clause-found c =
    let text = c.args.text.now in
    IfOk-weaker c.case_of.result (λ found. found ≡ case_of text) (λ found. IfSome found (λ case. IsCaseText text case)) (λ found is. found_is text found is) c.case_of.ensures

pub returns-clause-none : goal.returns-clause-none
returns-clause-none c =
    let text = c.args.text.now in
    IfOk-weaker c.case_of.result (λ found. found ≡ case_of text) (λ found. IfNone found ((case : Case) → IsCaseText text case → ⊥)) (λ found is. none_is text found is) c.case_of.ensures
