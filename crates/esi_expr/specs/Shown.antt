-- What contracts see of a test, which is its tree, and of what the readers return.
use Rattle.std.specs.Prelude.{◌≡◌, ℕ, List, Option, Some, None, Result, Ok, Err, fold}
use Rattle.std.specs.Borrow.{Bor}
use Rattle.esi_expr.specs.declared.expr.Expr.{Expr}
use Rattle.esi_expr.specs.declared.expr.Conjunction.{Conjunction}
use Rattle.esi_expr.specs.declared.expr.Negation.{Negation}
use Rattle.esi_expr.specs.declared.expr.Negation.TheOpen as layer
use Rattle.esi_expr.specs.declared.expr.Negation.TheFolds.{fold-Expr, fold-Conjunction, fold-Negation}
use Rattle.esi_expr.specs.declared.stop.Stop.{Stop}
use Rattle.esi_expr.specs.declared.stop.Halt.{Halt}
use Rattle.esi_expr.specs.declared.stop.Halt.TheVariants as halt
use Rattle.esi_expr.specs.Tree.{Test, Single, Or, Conj, Sole, And, Neg, Not, Group, Filled, Compared}
use Rattle.esi_expr.specs.Reading.{Stopped, Found}

-- conjunctions with bars between them
abbrev pub any_of : Conj → List Conj → Test
any_of first more = fold Or (Single first) more

-- negations with `&` between them
abbrev pub all_of : Neg → List Neg → Conj
all_of first more = fold And (Sole first) more

abbrev pub negation_step : layer.Negation-F Neg Conj Test → Neg
negation_step (layer.Not inner) = Not inner.value
negation_step (layer.Group inner) = Group inner.value
negation_step (layer.Filled only) = Filled only
negation_step (layer.Compared left by right) = Compared left by right

abbrev pub conjunction_step : layer.Conjunction-F Neg Conj Test → Conj
conjunction_step c = all_of c.first c.more.items

abbrev pub expr_step : layer.Expr-F Neg Conj Test → Test
expr_step e = any_of e.first e.more.items

-- the tree of a negation, of a conjunction and of a test
abbrev pub neg_of : Negation → Neg
neg_of = fold-Negation Neg Conj Test negation_step conjunction_step expr_step

abbrev pub conj_of : Conjunction → Conj
conj_of = fold-Conjunction Neg Conj Test negation_step conjunction_step expr_step

abbrev pub test_of : Expr → Test
test_of = fold-Expr Neg Conj Test negation_step conjunction_step expr_step

-- what a reader of parts returns: what it read, and what follows it
abbrev pub shown : {A : Type 0} → Option (A × Bor (List ℕ)) → Option (A × List ℕ)
shown None = None
shown (Some found) = Some (found.0, found.1.now)

-- what is wanted, and the text from there on
abbrev pub shown_stop : Stop → Stopped
shown_stop stop = (stop.wanted, stop.rest.now)

-- a reading stops just here, unless memory ran out
abbrev pub Stops : {A : Type 0} → Halt → Result A Stopped → Type 0
Stops (halt.Stopped stop) found = found ≡ Err (shown_stop stop)
Stops halt.NoMemory found = Unit {0}

-- what a reader of the code returns is this: the tree that it read, and what follows it
abbrev pub Finds : {A B : Type 0} → (A → B) → Result (A × Bor (List ℕ)) Halt → Found B → Type 0
Finds tree (Ok one) found = found ≡ Ok (tree one.0, one.1.now)
Finds tree (Err stop) found = Stops stop found

-- the same of a whole text
abbrev pub FindsTest : Result Expr Halt → Result Test Stopped → Type 0
FindsTest (Ok test) found = found ≡ Ok (test_of test)
FindsTest (Err stop) found = Stops stop found
