-- How attributes are passed over, one at a time.
use Rattle.std.proofs.Common.{◌≡◌, ℕ, zero, suc, ◌<◌, ◌≤◌, true, false, cond, List, [], ◌∷◌, length, Some, None, refl, sym, ◌∙◌, arith, bytes_eq}
use Rattle.std.specs.List.{list_any}
use Rattle.std.specs.Borrow.{Bor}
use Rattle.std.specs.Ordering.{is_eq, nat_cmp}
use Rattle.std.specs.Cmp.Lexicographic.{slice_cmp}
use Rattle.esi_scanner.specs.Problems.{skipped_at, walked}
use Rattle.esi_scanner.proofs.DistinctLemmas.{has_key, HasNames, has_more}

-- what is found of the text is what is found of the rest, once the names that were passed are these keys
abbrev pub IsWalkedTo : List ℕ → List (Bor (List ℕ)) → List ℕ → Type 0
IsWalkedTo text keys rest =
    (n : ℕ) × (names : List (List ℕ)) × (length rest ≤ n) × HasNames keys names × (walked n names rest ≡ walked (length text) [] text)

pub walked-start : (text : List ℕ) → IsWalkedTo text [] text
walked-start text = (length text, [], omega arith, (λ q. refl), refl)

walked-none : (n : ℕ) (names : List (List ℕ)) (text : List ℕ) → skipped_at text ≡ None → walked n names text ≡ (false, text)
unfolding walked
walked-none zero names text none = refl
walked-none (suc n) names text none = rw none refl

walked-again : (n : ℕ) (names : List (List ℕ)) (text name after : List ℕ) → skipped_at text ≡ Some (name, after) → list_any (bytes_eq name) names ≡ true → walked (suc n) names text ≡ (true, text)
unfolding walked
walked-again n names text name after found again = rw (found, again) refl

walked-next : (n : ℕ) (names : List (List ℕ)) (text name after : List ℕ) → skipped_at text ≡ Some (name, after) → list_any (bytes_eq name) names ≡ false → walked (suc n) names text ≡ walked n (name ∷ names) after
unfolding walked
walked-next n names text name after found new = rw (found, new) refl

pub walked-repeats : (text : List ℕ) (keys : List (Bor (List ℕ))) (rest after : List ℕ) (key : Bor (List ℕ)) → skipped_at rest ≡ Some (key.now, after) → length after < length rest → has_key keys key ≡ true → IsWalkedTo text keys rest → (true, rest) ≡ walked (length text) [] text
walked-repeats text keys rest after key found shorter has (zero, names, fits, same, so_far) = absurd (omega arith)
walked-repeats text keys rest after key found shorter has (suc n, names, fits, same, so_far) =
    sym (walked-again n names rest key.now after found (sym (same key) ∙ has)) ∙ so_far

pub walked-step : (text : List ℕ) (keys more : List (Bor (List ℕ))) (rest after : List ℕ) (key : Bor (List ℕ)) → skipped_at rest ≡ Some (key.now, after) → length after < length rest → has_key keys key ≡ false
    → ((q : Bor (List ℕ)) → has_key more q ≡ cond (is_eq (slice_cmp nat_cmp key.now q.now)) true (has_key keys q)) → IsWalkedTo text keys rest → IsWalkedTo text more after
walked-step text keys more rest after key found shorter new added (zero, names, fits, same, so_far) = absurd (omega arith)
walked-step text keys more rest after key found shorter new added (suc n, names, fits, same, so_far) =
    (n, key.now ∷ names, omega arith, has_more keys more names key.now key refl same added, sym (walked-next n names rest key.now after found (sym (same key) ∙ new)) ∙ so_far)

pub walked-end : (text : List ℕ) (keys : List (Bor (List ℕ))) (rest : List ℕ) → skipped_at rest ≡ None → IsWalkedTo text keys rest → (false, rest) ≡ walked (length text) [] text
walked-end text keys rest none (n, names, fits, same, so_far) = sym (walked-none n names rest none) ∙ so_far
