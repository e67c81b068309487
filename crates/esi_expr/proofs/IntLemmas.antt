-- Signed numbers made from magnitudes.
use Rattle.std.proofs.Common.{◌≡◌, ℕ, ◌^◌, ◌<◌, Bool, true, List, Some, refl, arith}
use Rattle.std.proofs.Math.IntN.{pos, neg_ℤ, ◌-ℤ◌}
use Rattle.std.specs.Int.{cast_unsigned, cast_signed}
use Rattle.std.specs.Str.Parse.{digits_value}
use Rattle.std.proofs.Common.{w64}
use Rattle.std.proofs.lemmas.Int.{ints}
use Rattle.esi_expr.specs.Numbers.{is_negative, after_minus, signed, number_of, are_digits}

pub number_is : (text digits : List ℕ) (n : ℕ) (negative : Bool) → digits ≡ after_minus text → are_digits digits ≡ true → n ≡ digits_value 10 digits → is_negative text ≡ negative → Some (signed negative n) ≡ number_of text
unfolding number_of
number_is text digits n negative behind are value sign = rw (← behind, are, sign, value) refl

-- a small number, negated
pub negated : (n : ℕ) → n < 10 ^ 18 → cast_signed w64 (cast_unsigned w64 (pos 0 -ℤ cast_signed w64 n)) ≡ neg_ℤ (pos n)
negated n h = omega (arith, ints)
