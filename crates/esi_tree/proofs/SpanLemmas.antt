-- Spans that reach past the end of a text.
use Rattle.std.proofs.Common.{◌≡◌, ◌⊎◌, inl, inr, ℕ, ◌-◌, ◌<◌, ◌≤◌, min, List, [], ◌∷◌, length, take, drop, slice_range, refl, sym, ap, ◌∙◌, arith}
use Rattle.std.proofs.lemmas.Bool.{cases_lt}
use Rattle.std.proofs.lemmas.List.{take_all, length-drop}

take_none : (n : ℕ) (xs : List ℕ) → length xs ≤ 0 → take n xs ≡ []
take_none n xs none = take_all n xs (omega arith) ∙ empty xs none
  where
    empty : (ys : List ℕ) → length ys ≤ 0 → ys ≡ []
    empty [] none = refl
    empty (y ∷ ys) none = absurd (omega arith)

-- a span that ends before it begins, or begins past the end
nothing : (text : List ℕ) (s e : ℕ) → (e ≤ s) ⊎ (length text ≤ s) → slice_range text s e ≡ []
nothing text s e (inl ends) = let none : e - s ≡ 0 = omega arith in ap (λ n. take n (drop s text)) none
nothing text s e (inr past) = take_none (e - s) (drop s text) (omega (arith, length-drop s text))

-- what stands in a span stands in as much of it as lies in the text
pub clamped : (text : List ℕ) (s e s2 e2 : ℕ) → e2 ≡ min e (length text) → s2 ≡ min s e2 → slice_range text s2 e2 ≡ slice_range text s e
clamped text s e s2 e2 ends starts = by_order (cases_lt e2 s) (cases_lt (length text) e)
  where
    by_order : (e2 < s) ⊎ (s ≤ e2) → (length text < e) ⊎ (e ≤ length text) → slice_range text s2 e2 ≡ slice_range text s e
    by_order (inl past) (inl long) = nothing text s2 e2 (inl (omega (arith, starts))) ∙ sym (nothing text s e (inr (omega (arith, ends))))
    by_order (inl past) (inr within) = nothing text s2 e2 (inl (omega (arith, starts))) ∙ sym (nothing text s e (inl (omega (arith, ends))))
    by_order (inr here) (inr within) =
        let same_end : e2 ≡ e = omega (arith, ends) in
        let same_start : s2 ≡ s = omega (arith, starts) in
        ap (λ i. slice_range text i e2) same_start ∙ ap (slice_range text s) same_end
    by_order (inr here) (inl long) =
        let same_start : s2 ≡ s = omega (arith, starts) in
        ap (λ i. slice_range text i e2) same_start
        ∙ take_all (e2 - s) (drop s text) (omega (arith, ends, length-drop s text)) ∙ sym (take_all (e - s) (drop s text) (omega (arith, length-drop s text)))
