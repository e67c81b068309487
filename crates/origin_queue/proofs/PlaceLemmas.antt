-- Places that are in order, and places without one.
use Rattle.std.proofs.Common.{◌≡◌, inl, inr, ℕ, suc, ◌+◌, ◌<◌, ◌≤◌, ◌⊎◌, Bool, true, false, not, List, [], ◌∷◌, ◌++◌, length, refl, sym, ◌∙◌, ap, subst, arith, nat_eq, cond}
use Rattle.std.proofs.lemmas.Bool.{true≢false, or_parts, or_cases, cases_Bool, eqb-true, eq-eqb}
use Rattle.origin_queue.specs.Queued.{stands, without}

pub without_none : (n : ℕ) (xs : List ℕ) → stands n xs ≡ false → without n xs ≡ xs
without_none n [] is = refl
without_none n (x ∷ xs) is =
    let parts = or_parts (nat_eq x n) (stands n xs) is in
    ap (λ (b : Bool). cond (not b) (x ∷ without n xs) (without n xs)) parts.0 ∙ ap (λ (l : List ℕ). x ∷ l) (without_none n xs parts.1)

pub length_without : (n : ℕ) (xs : List ℕ) → length (without n xs) ≤ length xs
length_without n [] = omega arith
length_without n (x ∷ xs) = by_test (length_without n xs) (nat_eq x n)
  where
    by_test : length (without n xs) ≤ length xs → (b : Bool) → length (cond (not b) (x ∷ without n xs) (without n xs)) ≤ suc (length xs)
    by_test le true = omega arith
    by_test le false = omega arith

pub length_none : (xs : List ℕ) → length xs ≤ 0 → xs ≡ []
length_none [] is = refl
length_none (x ∷ xs) is = absurd (omega arith)

-- ---- each is below the next, the first is no less than low, and the last is below high

abbrev pub Between : ℕ → ℕ → List ℕ → Type 0
Between low high [] = low ≤ high
Between low high (x ∷ xs) = (low ≤ x) × Between (x + 1) high xs

pub between_lower : (low lower high : ℕ) (xs : List ℕ) → lower ≤ low → Between low high xs → Between lower high xs
between_lower low lower high [] le is = omega arith
between_lower low lower high (x ∷ xs) le is = let first = is.0 in (omega arith, is.1)

pub between_within : (low high : ℕ) (xs : List ℕ) → Between low high xs → low ≤ high
between_within low high [] is = is
between_within low high (x ∷ xs) is = let first = is.0 in let rest = between_within (x + 1) high xs is.1 in omega arith

pub between_push : (low high : ℕ) (xs : List ℕ) → Between low high xs → Between low (high + 1) (xs ++ high ∷ [])
between_push low high [] is = (is, omega arith)
between_push low high (x ∷ xs) is = (is.0, between_push (x + 1) high xs is.1)

pub between_without : (n low high : ℕ) (xs : List ℕ) → Between low high xs → Between low high (without n xs)
between_without n low high [] is = is
between_without n low high (x ∷ xs) is = by_test (between_without n (x + 1) high xs is.1) (nat_eq x n)
  where
    by_test : Between (x + 1) high (without n xs) → (b : Bool) → Between low high (cond (not b) (x ∷ without n xs) (without n xs))
    by_test rest true = between_lower (x + 1) low high (without n xs) (let first = is.0 in omega arith) rest
    by_test rest false = (is.0, rest)

pub between_stands : (n low high : ℕ) (xs : List ℕ) → Between low high xs → stands n xs ≡ true → low ≤ n
between_stands n low high [] is there = absurd (true≢false (sym there))
between_stands n low high (x ∷ xs) is there = by_place (λ later. between_stands n (x + 1) high xs is.1 later) (or_cases (nat_eq x n) (stands n xs) there)
  where
    by_place : (stands n xs ≡ true → x + 1 ≤ n) → (nat_eq x n ≡ true) ⊎ (stands n xs ≡ true) → low ≤ n
    by_place behind (inl first) = let same = eqb-true x n first in let le = is.0 in omega arith
    by_place behind (inr later) = let le = is.0 in let above = behind later in omega arith

-- who is below all of them isn't among them
pub without_below : (n low high : ℕ) (xs : List ℕ) → n < low → Between low high xs → without n xs ≡ xs
without_below n low high xs below is = by_test (cases_Bool (stands n xs))
  where
    by_test : (stands n xs ≡ true) ⊎ (stands n xs ≡ false) → without n xs ≡ xs
    by_test (inl there) = let le = between_stands n low high xs is there in absurd (omega arith)
    by_test (inr none) = without_none n xs none

-- without the first of them
pub without_first : (n low high : ℕ) (xs later : List ℕ) → xs ≡ n ∷ later → Between low high xs → without n xs ≡ later
without_first n low high xs later first is =
    ap (without n) first ∙ ap (λ (b : Bool). cond (not b) (n ∷ without n later) (without n later)) (eq-eqb n n refl)
    ∙ without_below n (n + 1) high later (omega arith) (subst (Between low high) first is).1

-- ---- each is below a number

abbrev pub Below : ℕ → List ℕ → Type 0
Below high [] = Unit {0}
Below high (x ∷ xs) = (x < high) × Below high xs

pub below_more : (high higher : ℕ) (xs : List ℕ) → high ≤ higher → Below high xs → Below higher xs
below_more high higher [] le is = tt
below_more high higher (x ∷ xs) le is = let first = is.0 in (omega arith, below_more high higher xs le is.1)

pub below_push : (high n : ℕ) (xs : List ℕ) → n < high → Below high xs → Below high (xs ++ n ∷ [])
below_push high n [] below is = (below, tt)
below_push high n (x ∷ xs) below is = (is.0, below_push high n xs below is.1)

pub below_without : (n high : ℕ) (xs : List ℕ) → Below high xs → Below high (without n xs)
below_without n high [] is = tt
below_without n high (x ∷ xs) is = by_test (below_without n high xs is.1) (nat_eq x n)
  where
    by_test : Below high (without n xs) → (b : Bool) → Below high (cond (not b) (x ∷ without n xs) (without n xs))
    by_test rest true = rest
    by_test rest false = (is.0, rest)

pub below_stands : (n high : ℕ) (xs : List ℕ) → Below high xs → stands n xs ≡ true → n < high
below_stands n high [] is there = absurd (true≢false (sym there))
below_stands n high (x ∷ xs) is there = by_place (λ later. below_stands n high xs is.1 later) (or_cases (nat_eq x n) (stands n xs) there)
  where
    by_place : (stands n xs ≡ true → n < high) → (nat_eq x n ≡ true) ⊎ (stands n xs ≡ true) → n < high
    by_place behind (inl first) = let same = eqb-true x n first in let below = is.0 in omega arith
    by_place behind (inr later) = behind later
