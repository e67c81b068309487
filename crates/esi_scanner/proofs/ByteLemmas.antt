-- Comparisons of bytes.
use Rattle.std.proofs.Common.{◌≡◌, ℕ, ◌+◌, true, false, nat_eq, Option, Some, None, MatchOption, List, [], ◌∷◌, length, take, drop, refl, sym, bytes_eq, arith}
use Rattle.std.proofs.lemmas.Slice.Eq.{bytes_eq-Decides}
use Rattle.std.specs.Borrow.{Bor}
use Rattle.std.specs.Option.{option_copied}
use Rattle.esi_scanner.specs.Bytes.{begins_with, after_bytes}

pub nat_eq-flip : (m n : ℕ) → nat_eq m n ≡ nat_eq n m
nat_eq-flip m n = grind arith

pub bytes_eq-flip : (xs ys : List ℕ) → bytes_eq xs ys ≡ bytes_eq ys xs
bytes_eq-flip [] [] = refl
bytes_eq-flip [] (y ∷ ys) = refl
bytes_eq-flip (x ∷ xs) [] = refl
bytes_eq-flip (x ∷ xs) (y ∷ ys) = rw (nat_eq-flip x y, bytes_eq-flip xs ys) refl

-- bytes at the front
pub begins-part : (text bytes : List ℕ) → begins_with text bytes ≡ true → take (length bytes) text ≡ bytes
begins-part text bytes is = sym ((bytes_eq-Decides bytes (take (length bytes) text)).0 is)

pub begins-from_part : (text bytes : List ℕ) → take (length bytes) text ≡ bytes → begins_with text bytes ≡ true
begins-from_part text bytes is = (bytes_eq-Decides bytes (take (length bytes) text)).1 (sym is)

-- what stripping the bytes from the front answers
pub strip-cases : (text bytes : List ℕ) (rest : Option (Bor (List ℕ)))
    → MatchOption rest (bytes_eq (take (length bytes) text) bytes ≡ false) (λ x. (bytes_eq (take (length bytes) text) bytes ≡ true) × (x.now ≡ drop (length bytes) text) × (length x.now + length bytes ≡ length text))
    → option_copied rest ≡ after_bytes text bytes
strip-cases text bytes None is = rw (bytes_eq-flip bytes (take (length bytes) text), is) refl
strip-cases text bytes (Some x) (is, after, len) = rw (bytes_eq-flip bytes (take (length bytes) text), is, after) refl
