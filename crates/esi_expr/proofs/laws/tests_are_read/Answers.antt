use Rattle.esi_expr.proofs.Theorems.{reads_tests, tests_are_one}
use Rattle.esi_expr.proofs.laws.tests_are_read.Goals as goal

pub returns-clause-read : goal.returns-clause-read
returns-clause-read c = reads_tests

pub returns-clause-one : goal.returns-clause-one
returns-clause-one c = tests_are_one
