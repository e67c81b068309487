use Rattle.edge_case.proofs.CaseLemmas.{case_sound, case_complete, one_case}
use Rattle.edge_case.proofs.laws.case_texts_are_read.Goals as goal

pub returns-clause-read : goal.returns-clause-read
returns-clause-read c = λ text case. (case_sound text case, case_complete text case)

pub returns-clause-one : goal.returns-clause-one
returns-clause-one c = one_case
