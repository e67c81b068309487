-- The halves of a text are what stands before and after the first such byte.
use Rattle.std.proofs.Common.{◌≡◌, ℕ, ◌+◌, ◌<◌, ◌==◌, Bool, true, false, not, cond, List, [], ◌∷◌, ◌++◌, length, take, drop, get_or, Some, None, option_map, nat_lt, refl, sym, ◌∙◌, ap, subst, append_assoc, arith}
use Rattle.std.specs.List.{AllPass, position_or_len}
use Rattle.std.proofs.lemmas.Bool.{eqb-true, eq-eqb, lt-ltb, ltb-true}
use Rattle.std.proofs.lemmas.List.{take_at, drop_at, length-append, length_push, take-append-drop, get_or-take, get_or_append_left, drop_more, length-take-le}
use Rattle.std.proofs.lemmas.List.Sums.{position_or_len_is, passes_at_first, fails_before_first}
use Rattle.std.proofs.Math.Seq.{get_or-append_seam}
use Rattle.std.proofs.lemmas.Option.{some_pair_parts}
use Rattle.edge_types.specs.Halves.{around}

by_place : (mark : ℕ) (text front rest : List ℕ) (b : Bool) → nat_lt (position_or_len (λ c. c == mark) text) (length text) ≡ b
    → option_map {U = List ℕ × List ℕ} (λ n. (take n text, drop (n + 1) text)) (cond b (Some (position_or_len (λ c. c == mark) text)) None) ≡ Some (front, rest)
    → AllPass (λ c. not (c == mark)) front × (text ≡ front ++ mark ∷ rest)
by_place mark text front rest false test e = absurd (cc)
by_place mark text front rest true test e =
    let n = position_or_len (λ (c : ℕ). c == mark) text in
    let parts = some_pair_parts (take n text) front (drop (n + 1) text) rest e in
    let less = ltb-true n (length text) test in
    let found : get_or text n 0 ≡ mark = eqb-true _ _ (passes_at_first (λ c. c == mark) text 0 less) in
    let tail : drop n text ≡ mark ∷ drop (n + 1) text = drop_more text n 0 less ∙ ap (λ c. c ∷ drop (n + 1) text) found in
    let all : AllPass (λ c. not (c == mark)) (take n text) = λ k d h.
    let below : k < n = omega (arith, length-take-le n text (omega arith)) in
    ap (λ c. not (c == mark)) (get_or-take n text k d below) ∙ ap not (fails_before_first (λ c. c == mark) text k d below) in
    (subst (λ y. AllPass (λ c. not (c == mark)) y) parts.0 all, rw (← parts.0, ← parts.1) (sym (take-append-drop n text) ∙ ap (λ t. take n text ++ t) tail))

-- what is found stands so in the text
pub around_sound : (mark : ℕ) (text front rest : List ℕ) → around mark text ≡ Some (front, rest) → AllPass (λ c. not (c == mark)) front × (text ≡ front ++ mark ∷ rest)
unfolding around
around_sound mark text front rest e = by_place mark text front rest _ refl e

not_true : (b : Bool) → not b ≡ true → b ≡ false
not_true true e = absurd (cc)
not_true false e = refl

-- and what stands so is found
pub around_again : (mark : ℕ) (front rest : List ℕ) → AllPass (λ c. not (c == mark)) front → around mark (front ++ mark ∷ rest) ≡ Some (front, rest)
unfolding around
around_again mark front rest all =
    let at : position_or_len (λ (c : ℕ). c == mark) (front ++ mark ∷ rest) ≡ length front =
    position_or_len_is (λ c. c == mark) (front ++ mark ∷ rest) (length front) 0 (omega (arith, length-append front (mark ∷ rest)))
    (λ k h. ap (λ c. c == mark) (get_or_append_left front (mark ∷ rest) 0 k h) ∙ not_true _ (all k 0 h))
    (λ h. eq-eqb _ _ (get_or-append_seam front mark rest 0)) in
    let within : nat_lt (length front) (length (front ++ mark ∷ rest)) ≡ true = lt-ltb _ _ (omega (arith, length-append front (mark ∷ rest))) in
    let before = take_at front (mark ∷ rest) (length front) refl in
    let after : drop (length front + 1) (front ++ mark ∷ rest) ≡ rest =
    ap (drop (length front + 1)) (sym (append_assoc front (mark ∷ []) rest)) ∙ drop_at (front ++ mark ∷ []) rest (length front + 1) (length_push front mark) in
    rw (at, within, before, after) refl
