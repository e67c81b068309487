-- What a search for a byte finds.
use Rattle.std.proofs.Common.{◌≡◌, ℕ, ◌==◌, Bool, true, false, List, length, Option, Some, None, refl, arith, lt-ltb, le-ltb}
use Rattle.std.specs.List.{position, position_or_len}
use Rattle.std.proofs.lemmas.List.Sums.{position_or_len_is}
use Rattle.memchr.specs.Find.{IsFirstByte, is_byte}

-- what fails is false
fails : (b : Bool) → (b ≡ true → ⊥) → b ≡ false
fails true never = absurd (never refl)
fails false never = refl

pub position_from_search : (c : ℕ) (text : List ℕ) (r : Option ℕ) → IsFirstByte (is_byte c) text r → r ≡ position (λ b. b == c) text
position_from_search c text None none =
    let at : position_or_len (λ b. b == c) text ≡ length text = position_or_len_is (λ b. b == c) text (length text) 0 (omega arith) (λ k h. fails _ (none k (omega arith) h)) (λ h. absurd (omega arith)) in
    rw (at, le-ltb (length text) (length text) (omega arith)) refl
position_from_search c text (Some n) found =
    let at : position_or_len (λ b. b == c) text ≡ n = position_or_len_is (λ b. b == c) text n 0 (omega (arith, found.0.high)) (λ k h. fails _ (found.0.before k (omega arith) h)) (λ h. found.1) in
    rw (at, lt-ltb n (length text) found.0.high) refl
