-- How a value is decoded, a letter at a time.
use Rattle.std.proofs.Common.{◌≡◌, ℕ, zero, suc, ◌<◌, ◌≤◌, List, [], ◌∷◌, ◌++◌, length, Some, None, refl, sym, ◌∙◌, ap, append_assoc, arith}
use Rattle.std.proofs.lemmas.List.{append-nil}
use Rattle.esi_scanner.specs.Entities.{letter_at, letters_of, decoded}

-- the value is the letters so far, and those of the rest
abbrev pub IsDecodedTo : List ℕ → List ℕ → List ℕ → Type 0
IsDecodedTo raw front rest = (n : ℕ) × (length rest ≤ n) × (front ++ letters_of n rest ≡ decoded raw)

pub decoded-start : (raw : List ℕ) → IsDecodedTo raw [] raw
unfolding decoded
decoded-start raw = (length raw, omega arith, refl)

pub letters-some : (n : ℕ) (raw after : List ℕ) (b : ℕ) → letter_at raw ≡ Some (b, after) → letters_of (suc n) raw ≡ b ∷ letters_of n after
unfolding letters_of
letters-some n raw after b is = rw is refl

pub letters-none : (n : ℕ) (raw : List ℕ) → letter_at raw ≡ None → letters_of n raw ≡ []
unfolding letters_of
letters-none zero raw is = refl
letters-none (suc n) raw is = rw is refl

pub decoded-step : (raw front rest after : List ℕ) (b : ℕ) → letter_at rest ≡ Some (b, after) → length after < length rest → IsDecodedTo raw front rest → IsDecodedTo raw (front ++ b ∷ []) after
decoded-step raw front rest after b is shorter (zero, fits, so_far) = absurd (omega arith)
decoded-step raw front rest after b is shorter (suc n, fits, so_far) =
    (n, omega arith, append_assoc front (b ∷ []) (letters_of n after) ∙ ap (λ letters. front ++ letters) (sym (letters-some n rest after b is)) ∙ so_far)

pub decoded-end : (raw front rest : List ℕ) → letter_at rest ≡ None → IsDecodedTo raw front rest → front ≡ decoded raw
decoded-end raw front rest is (n, fits, so_far) =
    sym (append-nil front) ∙ ap (λ letters. front ++ letters) (sym (letters-none n rest is)) ∙ so_far
