-- Runs of bytes at the front of a text.
use Rattle.std.proofs.Common.{◌≡◌, ℕ, ◌+◌, ◌<◌, Bool, true, false, not, cond, eqb, ltb, List, [], ◌∷◌, ◌++◌, length, take, drop, Option, Some, None, refl, ap, ◌∙◌, arith}
use Rattle.std.specs.Prelude.{position, option_map, option_and_then}
use Rattle.std.specs.List.{list_all, position_or_len}
use Rattle.std.proofs.lemmas.Bool.{and_parts, le-ltb, cond-true, not_from_false}
use Rattle.std.proofs.lemmas.List.{get_or-take, length-take}
use Rattle.std.proofs.lemmas.List.Sums.{list_all-from_AllPass, AllPass-from_list_all, fails_before_first}
use Rattle.edge_types.specs.Halves.{around}
use Rattle.edge_types.proofs.HalvesLemmas.{around_sound, around_again}
use Rattle.surrogate_headers.specs.Spelling.{NonePasses}

-- a value that a chain of steps gave
pub bound : {A B : Type 0} (o : Option A) (f : A → Option B) (y : B) → option_and_then f o ≡ Some y → (x : A) × (o ≡ Some x) × (f x ≡ Some y)
bound None f y e = absurd (cc)
bound (Some x) f y e = (x, refl, e)

pub guarded : {A : Type 0} (b : Bool) (o : Option A) (y : A) → cond b o None ≡ Some y → (b ≡ true) × (o ≡ Some y)
guarded true o y e = (refl, e)
guarded false o y e = absurd (cc)

-- a run without such a byte, and then one or the end
pub run_stops : (p : ℕ → Bool) (xs ys : List ℕ) → NonePasses p xs → position_or_len p ys ≡ 0 → position_or_len p (xs ++ ys) ≡ length xs
run_stops p [] ys none stop = stop
run_stops p (x ∷ xs) ys none stop =
    let here = and_parts (not (p x)) (list_all (λ b. not (p b)) xs) none in
    let later = run_stops p xs ys here.1 stop in
    cond-true (not (p x)) (1 + position_or_len p (xs ++ ys)) 0 here.0 ∙ omega (arith, later)

pub run_whole : (p : ℕ → Bool) (xs : List ℕ) → NonePasses p xs → position_or_len p xs ≡ length xs
run_whole p [] none = refl
run_whole p (x ∷ xs) none =
    let here = and_parts (not (p x)) (list_all (λ b. not (p b)) xs) none in
    let later = run_whole p xs here.1 in
    cond-true (not (p x)) (1 + position_or_len p xs) 0 here.0 ∙ omega (arith, later)

-- before the first such byte there is none
pub run_passes : (p : ℕ → Bool) (xs : List ℕ) → NonePasses p (take (position_or_len p xs) xs)
run_passes p xs =
    let n = position_or_len p xs in
    list_all-from_AllPass (λ b. not (p b)) (take n xs) (λ k d h.
    let below : k < n = omega (arith, length-take n xs) in
    ap (λ b. not (p b)) (get_or-take n xs k d below) ∙ not_from_false _ (fails_before_first p xs k d below))

pub stops_at : (p : ℕ → Bool) (x : ℕ) (xs : List ℕ) → p x ≡ true → position_or_len p (x ∷ xs) ≡ 0
stops_at p x xs e = ap (λ t. cond (not t) (1 + position_or_len p xs) 0) e

pub around-spelled : (mark : ℕ) (xs ys : List ℕ) → NonePasses (λ b. eqb b mark) xs → around mark (xs ++ mark ∷ ys) ≡ Some (xs, ys)
around-spelled mark xs ys none = around_again mark xs ys (AllPass-from_list_all (λ b. not (eqb b mark)) xs none)

pub around-none : (mark : ℕ) (xs : List ℕ) → NonePasses (λ b. eqb b mark) xs → around mark xs ≡ None
unfolding around
around-none mark xs none =
    let is : ℕ → Bool = λ b. eqb b mark in
    let at = run_whole is xs none in
    let past : ltb (length xs) (length xs) ≡ false = le-ltb (length xs) (length xs) (omega arith) in
    let place : position is xs ≡ None = rw (at, past) refl in
    ap (option_map (λ n. (take n xs, drop (n + 1) xs))) place

-- what stands round the first such byte
pub record Around (mark : ℕ) (text xs ys : List ℕ) : Type 0 where
  pub joined : text ≡ xs ++ mark ∷ ys
  pub none : NonePasses (λ b. eqb b mark) xs

pub around-sound : (mark : ℕ) (text xs ys : List ℕ) → around mark text ≡ Some (xs, ys) → Around mark text xs ys
around-sound mark text xs ys e =
    let (all, joined) = around_sound mark text xs ys e in
    record { joined = joined; none = list_all-from_AllPass (λ b. not (eqb b mark)) xs all }
