-- Reading parts one after another, each behind a sign.
use Rattle.std.proofs.Common.{◌≡◌, ℕ, zero, suc, ◌<◌, ◌≤◌, Bool, true, false, cond, List, [], ◌∷◌, ◌++◌, length, map, Some, None, Result, Ok, Err, refl, sym, ap, subst, arith}
use Rattle.std.specs.Borrow.{Bor}
use Rattle.std.specs.List.{fold}
use Rattle.std.specs.Result.{IsErrAnd}
use Rattle.std.proofs.lemmas.Option.{cond_some}
use Rattle.edge_types.specs.WhiteSpace.{is_ws}
use Rattle.esi_vars.specs.Reading.{after_byte}
use Rattle.esi_expr.specs.declared.stop.Halt.{Halt}
use Rattle.esi_expr.specs.declared.stop.Halt.TheVariants as halt
use Rattle.esi_expr.specs.Shown.{Stops, Finds}
use Rattle.esi_expr.specs.Tree.{Single, Or, Conj, Sole, And, Neg}
use Rattle.esi_expr.specs.Reading.{◌>>=◌, Stopped, Found, after_ws, after_sign, joined_at, conj_with, test_with}

-- one more at the end
pub pushed : {A B C : Type 0} (join : A → B → A) (f : C → B) (front : A) (xs : List C) (x : C) → fold join front (map f (xs ++ x ∷ [])) ≡ join (fold join front (map f xs)) (f x)
pushed join f front [] x = refl
pushed join f front (y ∷ ys) x = pushed join f (join front (f y)) ys x

-- white space passed over makes a text no longer
ws_shorter : (text : List ℕ) → length (after_ws text) ≤ length text
ws_shorter [] = omega arith
ws_shorter (b ∷ bs) = by_test (is_ws b) (ws_shorter bs)
  where
    by_test : (t : Bool) → length (after_ws bs) ≤ length bs → length (cond t (after_ws bs) (b ∷ bs)) ≤ suc (length bs)
    by_test true less = omega (arith, less)
    by_test false less = omega arith

byte_shorter : (sign : ℕ) (text rest : List ℕ) → after_byte sign text ≡ Some rest → length rest < length text
byte_shorter sign [] rest e = absurd (cc)
byte_shorter sign (b ∷ bs) rest e =
    let parts = cond_some _ bs rest e in
    let same : length bs ≡ length rest = ap length parts.1 in omega (arith, same)

-- what follows a sign is shorter
pub sign_shorter : (sign : ℕ) (text rest : List ℕ) → after_sign sign text ≡ Some rest → length rest < length text
unfolding after_sign
sign_shorter sign text rest e = omega (arith, byte_shorter sign (after_ws text) rest e, ws_shorter text)

-- what has been read, and that reading on from it gives the whole
pub record Underway {A B : Type 0} (join : A → B → A) (sign : ℕ) (next : List ℕ → Found B) (front : A) (rest : List ℕ) (whole : Found A) : Type 0 where
  pub n : ℕ
  pub enough : length rest ≤ n
  pub reads : joined_at join sign next n front rest ≡ whole

step_by : {A B : Type 0} (join : A → B → A) (sign : ℕ) (next : List ℕ → Found B) (front : A) (last : B) (rest onward after : List ℕ) (whole : Found A) (n : ℕ)
    → length rest ≤ n → joined_at join sign next n front rest ≡ whole → after_sign sign rest ≡ Some onward → next onward ≡ Ok (last, after) → length after ≤ length onward
    → Underway join sign next (join front last) after whole
unfolding joined_at
step_by join sign next front last rest onward after whole zero enough reads here found less = absurd (omega (arith, sign_shorter sign rest onward here))
step_by join sign next front last rest onward after whole (suc n) enough reads here found less = record {
  n = n;
  enough = omega (arith, sign_shorter sign rest onward here);
  reads = rw (here, found) at reads;
}

-- one more is read
pub underway_step : {A B : Type 0} (join : A → B → A) (sign : ℕ) (next : List ℕ → Found B) (front : A) (last : B) (rest onward after : List ℕ) (whole : Found A)
    → Underway join sign next front rest whole → after_sign sign rest ≡ Some onward → next onward ≡ Ok (last, after) → length after ≤ length onward
    → Underway join sign next (join front last) after whole
underway_step join sign next front last rest onward after whole u here found less = step_by join sign next front last rest onward after whole u.n u.enough u.reads here found less

-- the same, where what was read is kept in a list
pub underway_push : {A B C : Type 0} (join : A → B → A) (f : C → B) (first : A) (sign : ℕ) (next : List ℕ → Found B) (items : List C) (x : C) (new : List C) (rest onward after : List ℕ) (whole : Found A)
    → new ≡ items ++ x ∷ [] → Underway join sign next (fold join first (map f items)) rest whole → after_sign sign rest ≡ Some onward → next onward ≡ Ok (f x, after) → length after ≤ length onward
    → Underway join sign next (fold join first (map f new)) after whole
underway_push join f first sign next items x new rest onward after whole is u here found less =
    rw (is, pushed join f first items x) (underway_step join sign next (fold join first (map f items)) (f x) rest onward after whole u here found less)

fail_by : {A B : Type 0} (join : A → B → A) (sign : ℕ) (next : List ℕ → Found B) (front : A) (rest onward : List ℕ) (whole : Found A) (n : ℕ) (stop : Halt)
    → length rest ≤ n → joined_at join sign next n front rest ≡ whole → after_sign sign rest ≡ Some onward → Stops stop (next onward) → Stops stop whole
unfolding joined_at
fail_by join sign next front rest onward whole n halt.NoMemory enough reads here stops = stops
fail_by join sign next front rest onward whole zero (halt.Stopped stop) enough reads here stops = absurd (omega (arith, sign_shorter sign rest onward here))
fail_by join sign next front rest onward whole (suc n) (halt.Stopped stop) enough reads here stops = sym (rw (here, stops) at reads)

-- nothing can be read behind a sign
pub underway_fail : {A B : Type 0} (join : A → B → A) (sign : ℕ) (next : List ℕ → Found B) (front : A) (rest onward : List ℕ) (whole : Found A) (stop : Halt)
    → Underway join sign next front rest whole → after_sign sign rest ≡ Some onward → Stops stop (next onward) → Stops stop whole
underway_fail join sign next front rest onward whole stop u here stops = fail_by join sign next front rest onward whole u.n stop u.enough u.reads here stops

end_by : {A B : Type 0} (join : A → B → A) (sign : ℕ) (next : List ℕ → Found B) (front : A) (rest : List ℕ) (whole : Found A) (n : ℕ)
    → joined_at join sign next n front rest ≡ whole → after_sign sign rest ≡ None → whole ≡ Ok (front, rest)
unfolding joined_at
end_by join sign next front rest whole zero reads none = sym reads
end_by join sign next front rest whole (suc n) reads none = sym (rw none at reads)

-- no sign follows
pub underway_end : {A B : Type 0} (join : A → B → A) (sign : ℕ) (next : List ℕ → Found B) (front : A) (rest : List ℕ) (whole : Found A)
    → Underway join sign next front rest whole → after_sign sign rest ≡ None → whole ≡ Ok (front, rest)
underway_end join sign next front rest whole u none = end_by join sign next front rest whole u.n u.reads none

-- the first has been read
pub conj_begun : (neg : List ℕ → Found Neg) (text rest : List ℕ) (first : Neg) → neg text ≡ Ok (first, rest) → Underway And 38 neg (Sole first) rest (conj_with neg text)
unfolding conj_with
conj_begun neg text rest first e = record { n = length rest; enough = omega arith; reads = rw e refl }

pub test_begun : (neg : List ℕ → Found Neg) (text rest : List ℕ) (first : Conj) → conj_with neg text ≡ Ok (first, rest) → Underway Or 124 (conj_with neg) (Single first) rest (test_with neg text)
unfolding test_with
test_begun neg text rest first e = record { n = length rest; enough = omega arith; reads = rw e refl }

-- the first can't be read
pub conj_stops : (neg : List ℕ → Found Neg) (text : List ℕ) (stop : Halt) → Stops stop (neg text) → Stops stop (conj_with neg text)
unfolding conj_with
conj_stops neg text halt.NoMemory stops = stops
conj_stops neg text (halt.Stopped stop) stops = rw stops refl

pub test_stops : (neg : List ℕ → Found Neg) (text : List ℕ) (stop : Halt) → Stops stop (conj_with neg text) → Stops stop (test_with neg text)
unfolding test_with
test_stops neg text halt.NoMemory stops = stops
test_stops neg text (halt.Stopped stop) stops = rw stops refl

-- where a reader stops is handed on as it is
pub handed_on : {A B : Type 0} (tree : A → B) (r : Result (A × Bor (List ℕ)) Halt) (stop : Halt) (found : Found B) → IsErrAnd r (λ e. e ≡ stop) → Stops stop found → Finds tree r found
handed_on tree (Ok one) stop found same stops = absurd same
handed_on tree (Err other) stop found same stops = subst (λ (s : Halt). Stops s found) (sym same) stops

-- a reader that goes on behind another
pub found_then : {A B P : Type 0} (next : A → Result B Stopped) (first : Result A Stopped) (y : B) → (first >>= next) ≡ Ok y → ((x : A) → first ≡ Ok x → next x ≡ Ok y → P) → P
found_then next (Ok x) y e k = k x refl e
found_then next (Err stop) y e k = absurd (cc)

ok_or : {A : Type 0} → A → Result A Stopped → A
ok_or x (Ok y) = y
ok_or x (Err stop) = x

pub same_ok : {A : Type 0} (a x : A) → ◌≡◌ {A = Result A Stopped} (Ok a) (Ok x) → a ≡ x
unfolding ok_or
same_ok a x e = ap (ok_or a) e

pub ok_parts : {A : Type 0} (a x : A) (rest after : List ℕ) → ◌≡◌ {A = Found A} (Ok (a, rest)) (Ok (x, after)) → (a ≡ x) × (rest ≡ after)
ok_parts {A} a x rest after e = let p = same_ok {A = A × List ℕ} (a, rest) (x, after) e in (ap (λ (q : A × List ℕ). q.0) p, ap (λ (q : A × List ℕ). q.1) p)
