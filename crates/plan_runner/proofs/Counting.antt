-- Of URLs that all stand in a list and differ there are no more than the list has.
use Rattle.std.proofs.Common.{◌≡◌, ◌≢◌, ◌⊎◌, inl, inr, slice_index_or, ℕ, zero, suc, ◌<◌, ◌≤◌, List, [], ◌∷◌, length, refl, sym, ◌∙◌, arith}
use Rattle.std.specs.List.{AllByRecursion, Contains}
use Rattle.plan_runner.specs.Board.{AreApart}

abbrev Within : List (List ℕ) → List ℕ → Type 0
Within [] x = ⊥
Within (y ∷ ys) x = (y ≡ x) ⊎ Within ys x

within_at : (xs : List (List ℕ)) (x : List ℕ) (k : ℕ) → k < length xs → slice_index_or xs k x ≡ x → Within xs x
within_at [] x k below is = absurd (omega arith)
within_at (y ∷ xs) x zero below is = inl is
within_at (y ∷ xs) x (suc k) below is = inr (within_at xs x k (omega arith) is)

-- the list without this one
without : (ys : List (List ℕ)) (x : List ℕ) → Within ys x → List (List ℕ)
without [] x here = absurd here
without (y ∷ ys) x (inl here) = ys
without (y ∷ ys) x (inr later) = y ∷ without ys x later

without_one : (ys : List (List ℕ)) (x : List ℕ) (here : Within ys x) → length ys ≡ suc (length (without ys x here))
unfolding without
without_one [] x here = absurd here
without_one (y ∷ ys) x (inl here) = refl
without_one (y ∷ ys) x (inr later) = omega (arith, without_one ys x later)

still_within : (ys : List (List ℕ)) (x : List ℕ) (here : Within ys x) (z : List ℕ) → z ≢ x → Within ys z → Within (without ys x here) z
unfolding without
still_within [] x here z other there = absurd here
still_within (y ∷ ys) x (inl here) z other (inl there) = absurd (other (sym there ∙ here))
still_within (y ∷ ys) x (inl here) z other (inr there) = there
still_within (y ∷ ys) x (inr here) z other (inl there) = inl there
still_within (y ∷ ys) x (inr here) z other (inr there) = inr (still_within ys x here z other there)

all_still : (ys : List (List ℕ)) (x : List ℕ) (here : Within ys x) (xs : List (List ℕ)) → AllByRecursion (λ z. z ≢ x) xs → AllByRecursion (Within ys) xs → AllByRecursion (Within (without ys x here)) xs
all_still ys x here [] others all = tt
all_still ys x here (z ∷ xs) others all = (still_within ys x here z others.0 all.0, all_still ys x here xs others.1 all.1)

fits : (xs ys : List (List ℕ)) → AreApart xs → AllByRecursion (Within ys) xs → length xs ≤ length ys
fits [] ys apart all = omega arith
fits (x ∷ xs) ys apart all =
    let rest : length xs ≤ length (without ys x all.0) = fits xs (without ys x all.0) apart.1 (all_still ys x all.0 xs apart.0 all.1) in
    omega (arith, rest, without_one ys x all.0)

all_within : (xs ys : List (List ℕ)) → AllByRecursion (Contains ys) xs → AllByRecursion (Within ys) xs
all_within [] ys all = tt
all_within (x ∷ xs) ys all = (within_at ys x all.0.0 all.0.1 all.0.2, all_within xs ys all.1)

pub no_more : (xs ys : List (List ℕ)) → AreApart xs → AllByRecursion (Contains ys) xs → length xs ≤ length ys
no_more xs ys apart all = fits xs ys apart (all_within xs ys all)
