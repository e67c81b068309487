use Rattle.std.proofs.Common.{vec_len}
use Rattle.edge_case.specs.declared.case_text.Case.{Case}
use Rattle.edge_case.specs.Case.{IsCaseText}
use Rattle.edge_case.proofs.Runs.{no_case}
use Rattle.edge_case.proofs.runner.read_case.Goals as goal

pub returns-in-None-clause-bad : goal.returns-in-None-clause-bad
returns-in-None-clause-bad g c = λ bad.
    let none : (case : Case) → IsCaseText c.deref.result.now case → ⊥ = rw c.in-None.is at c.in_ok-case.ensures.none in
    no_case _ (vec_len c.in_ok-text.text) c.in_ok-text.text.items c.in_ok-text.ensures.whole c.in_ok-text.ensures.longer (rw c.deref.ensures.value at none)
