-- What a reader can't go on without is an operand or a `)`, and no operator.
use Rattle.std.proofs.Common.{◌≡◌, ℕ, zero, suc, List, [], ◌∷◌, length, Option, Some, None, Result, Ok, Err, refl, ap}
use Rattle.std.specs.Result.{result_ok}
use Rattle.esi_expr.specs.declared.expr.Comparison.{Comparison}
use Rattle.esi_expr.specs.declared.expr.Operand.{Operand}
use Rattle.esi_expr.specs.declared.reading.TheConstants.{NESTING_LIMIT}
use Rattle.esi_expr.specs.declared.stop.Wanted.TheVariants as wanted
use Rattle.esi_expr.specs.Tree.{Test, Single, Or, Sole, And, Neg}
use Rattle.esi_expr.specs.Reading.{◌>>=◌, Stopped, Found, after_ws, after_sign, comparison_at, operand_at, operand_or, wanted_at, compared, plain_at, behind, joined_at, conj_with, test_with, closed, nested, neg_at, ended, reading, read_test}
use Rattle.template_check.specs.Stops.{stopped, stop_of}
use Rattle.template_check.specs.Laws.{TestsAreReadToTheirEnd}

abbrev Needs : {A : Type 0} → Result A Stopped → Type 0
Needs (Ok found) = Unit {0}
Needs (Err stop) = stop.0 ≡ wanted.Operator → ⊥

abbrev NeedsEach : {A : Type 0} → (List ℕ → Found A) → Type 0
NeedsEach reader = (text : List ℕ) → Needs (reader text)

then-needs : {A B : Type 0} (first : Result A Stopped) (next : A → Result B Stopped) → Needs first → ((x : A) → Needs (next x)) → Needs (first >>= next)
then-needs (Ok x) next here each = each x
then-needs (Err stop) next here each = here

operand-needs : (here : List ℕ) (o : Option (Operand × List ℕ)) → Needs (operand_or here o)
operand-needs here None = λ e. absurd (cc)
operand-needs here (Some found) = tt

wanted-needs : NeedsEach wanted_at
wanted-needs text = operand-needs (after_ws text) (operand_at text)

compared-needs : (left : Operand) (text : List ℕ) (o : Option (Comparison × List ℕ)) → Needs (compared left text o)
compared-needs left text None = tt
compared-needs left text (Some by) = then-needs (wanted_at by.1) _ (wanted-needs by.1) (λ right. tt)

plain-needs : NeedsEach plain_at
unfolding plain_at
plain-needs text = then-needs (wanted_at text) _ (wanted-needs text) (λ left. compared-needs left.0 left.1 (comparison_at left.1))

signed-needs : {A : Type 0} (o : Option (List ℕ)) (here : A × List ℕ) (onward : List ℕ → Found A) → NeedsEach onward → Needs (behind o here onward)
signed-needs None here onward each = tt
signed-needs (Some rest) here onward each = each rest

joined-needs : {A B : Type 0} (join : A → B → A) (sign : ℕ) (next : List ℕ → Found B) → NeedsEach next → (n : ℕ) (front : A) (text : List ℕ) → Needs (joined_at join sign next n front text)
unfolding joined_at
joined-needs join sign next each zero front text = tt
joined-needs join sign next each (suc n) front text =
    signed-needs (after_sign sign text) (front, text) _
    (λ rest. then-needs (next rest) _ (each rest) (λ found. joined-needs join sign next each n (join front found.0) found.1))

conjunction-needs : (neg : List ℕ → Found Neg) → NeedsEach neg → NeedsEach (conj_with neg)
unfolding conj_with
conjunction-needs neg each text = then-needs (neg text) _ (each text) (λ first. joined-needs And 38 neg each (length first.1) (Sole first.0) first.1)

test-needs : (neg : List ℕ → Found Neg) → NeedsEach neg → NeedsEach (test_with neg)
unfolding test_with
test-needs neg each text =
    let inner = conjunction-needs neg each in
    then-needs (conj_with neg text) _ (inner text) (λ first. joined-needs Or 124 (conj_with neg) inner (length first.1) (Single first.0) first.1)

closed-needs : (inner : Test) (here : List ℕ) (o : Option (List ℕ)) → Needs (closed inner here o)
closed-needs inner here None = λ e. absurd (cc)
closed-needs inner here (Some rest) = tt

nested-needs : (neg : List ℕ → Found Neg) → NeedsEach neg → (text : List ℕ) (negation parenthesis : Option (List ℕ)) → Needs (nested negation parenthesis text neg)
nested-needs neg each text (Some rest) parenthesis = then-needs (neg rest) _ (each rest) (λ inner. tt)
nested-needs neg each text None (Some rest) =
    then-needs (test_with neg rest) _ (test-needs neg each rest) (λ inner. closed-needs inner.0 (after_ws inner.1) (after_sign 41 inner.1))
nested-needs neg each text None None = plain-needs text

negation-needs : (n : ℕ) → NeedsEach (neg_at n)
unfolding neg_at
negation-needs zero text = plain-needs text
negation-needs (suc n) text = nested-needs (neg_at n) (negation-needs n) text (after_sign 33 text) (after_sign 40 text)

ended-there : (found : Test) (rest : List ℕ) → stopped (ended found rest) ≡ (wanted.Operator, []) → result_ok (ended found rest) ≡ Some found
ended-there found [] e = refl
ended-there found (b ∷ bs) e = absurd (let none : b ∷ bs ≡ [] = ap (λ (s : Stopped). s.1) e in cc)

-- a reading that stops at the text's end, where an operator could go on, has read a test
read-there : (found : Found Test) → Needs found → stopped (found >>= λ one. ended one.0 (after_ws one.1)) ≡ (wanted.Operator, [])
    → (test : Test) × (result_ok (found >>= λ one. ended one.0 (after_ws one.1)) ≡ Some test)
read-there (Ok one) needs e = (one.0, ended-there one.0 (after_ws one.1) e)
read-there (Err stop) needs e = absurd (needs (ap (λ (s : Stopped). s.0) e))

stops-there : (test : Test) (found : Result Test Stopped) → result_ok found ≡ Some test → stopped found ≡ (wanted.Operator, [])
stops-there test (Ok other) e = refl
stops-there test (Err stop) e = absurd (cc)

pub tests_are_read_to_their_end : TestsAreReadToTheirEnd
unfolding stop_of read_test
tests_are_read_to_their_end text =
    let needs = test-needs (neg_at NESTING_LIMIT) (negation-needs NESTING_LIMIT) text in
    ((λ e. let found = read-there (test_with (neg_at NESTING_LIMIT) text) needs e in record { test = found.0; is = found.1 }), λ is. stops-there is.test (reading text) is.is)
