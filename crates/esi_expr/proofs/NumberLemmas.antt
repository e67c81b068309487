-- What digits stand for.
use Rattle.std.proofs.Common.{◌≡◌, ℕ, ◌+◌, ◌-◌, ◌*◌, ◌^◌, ◌<◌, ◌≤◌, Bool, true, false, ◌&&◌, List, length, get_or, take, refl, add-one, arith}
use Rattle.std.specs.List.{list_all}
use Rattle.std.specs.Char.{is_ascii_digit, digit_value}
use Rattle.std.specs.Str.Parse.{digits_value}
use Rattle.std.proofs.Math.Nat.{pow-le-pow_right, pow-succ'}
use Rattle.std.proofs.lemmas.Bool.Decides.{nat_tests}
use Rattle.std.proofs.lemmas.List.Sums.{AllPass-from_list_all}
use Rattle.std.proofs.lemmas.Int.Digits.{digits_value_more}
use Rattle.esi_expr.specs.Numbers.{is_digit_count, are_digits}

pub both : (a b : Bool) → (a && b) ≡ true → (a ≡ true) × (b ≡ true)
both true b e = (refl, e)
both false b e = absurd (cc)

count_few : (n : ℕ) → is_digit_count n ≡ true → n ≤ 18
count_few n e = grind (arith, nat_tests)

-- there are 18 digits at most
pub few_digits : (digits : List ℕ) → are_digits digits ≡ true → length digits ≤ 18
few_digits digits e = count_few (length digits) (both (is_digit_count (length digits)) (list_all is_ascii_digit digits) e).0

digit_range : (b : ℕ) → is_ascii_digit b ≡ true → (48 ≤ b) × (b ≤ 57)
digit_range b e = (grind (arith, nat_tests), grind (arith, nat_tests))

-- each of them is one
pub digit_at : (digits : List ℕ) → are_digits digits ≡ true → (i d : ℕ) → i < length digits → (48 ≤ get_or digits i d) × (get_or digits i d ≤ 57)
digit_at digits e i d h =
    digit_range (get_or digits i d) (AllPass-from_list_all is_ascii_digit digits (both (is_digit_count (length digits)) (list_all is_ascii_digit digits) e).1 i d h)

-- one digit more
digit_is : (b : ℕ) → 48 ≤ b → b ≤ 57 → digit_value b ≡ b - 48
digit_is b low high = grind (arith, nat_tests)

pub value_more : (digits : List ℕ) (i m x : ℕ) → i < length digits → are_digits digits ≡ true → m ≡ digits_value 10 (take i digits) → x ≡ get_or digits i 0 - 48 → 10 * m + x ≡ digits_value 10 (take (i + 1) digits)
value_more digits i m x h are value digit =
    let range = digit_at digits are i 0 h in
    omega (arith, digits_value_more 10 digits i h, digit_is (get_or digits i 0) range.0 range.1)

pub pow_more : (i : ℕ) → 10 ^ (i + 1) ≡ 10 * 10 ^ i
pow_more i = rw add-one (pow-succ' 10 i)

pub pow_few : (i : ℕ) → i < 18 → 10 ^ i ≤ 10 ^ 17
pow_few i h = let less : i ≤ 17 = omega (arith, h) in pow-le-pow_right {n = 10} (omega arith) {i = i} {j = 17} less

pub pow_all : (i : ℕ) → i ≤ 18 → 10 ^ i ≤ 10 ^ 18
pow_all i h = pow-le-pow_right {n = 10} (omega arith) {i = i} {j = 18} h

-- a number of this size fits
pub fits_more : (m x p : ℕ) → m < p → p ≤ 10 ^ 17 → x ≤ 9 → 10 * m + x < 10 ^ 18
fits_more m x p h k l = omega arith

pub less_more : (m x i : ℕ) → m < 10 ^ i → x ≤ 9 → 10 * m + x < 10 ^ (i + 1)
less_more m x i h l = omega (arith, pow_more i)
