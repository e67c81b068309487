-- Decimal numbers: what is read is written so, and what is written so is read.
use Rattle.std.proofs.Common.{◌≡◌, ℕ, ◌+◌, ◌*◌, ◌^◌, ◌<◌, ◌≤◌, ◌&&◌, min, true, List, length, ◌∙◌, ap, Some, None, arith, rules, nat_le}
use Rattle.std.proofs.lemmas.Bool.{and_parts, and_from, ltb-true, lt-ltb, leb-true, le-leb, cond-true}
use Rattle.std.proofs.lemmas.Option.{cond_some}
use Rattle.std.proofs.lemmas.Str.Parse.{IsNumeralModel, IsDigitsTest, numerals_by_value, digits_value_short}
use Rattle.std.specs.Char.{is_ascii_digit}
use Rattle.std.specs.List.{list_all}
use Rattle.std.specs.Str.Parse.{digits_value}
use Rattle.edge_types.specs.Decimal.{WritesNumber, is_decimal, decimal_of}

abbrev pub AreDigits : List ℕ → Type 0
AreDigits text = list_all is_ascii_digit text ≡ true

digits_test : IsDigitsTest AreDigits
digits_test = search rules

pub own : IsNumeralModel AreDigits (digits_value 10)
own = numerals_by_value AreDigits digits_test

-- one digit more of a number that is kept small
pub capped : (v d above : ℕ) → min (min v above * 10 + d) above ≡ min (v * 10 + d) above
capped v d above = omega arith

pub decimal_sound : (text : List ℕ) (most n : ℕ) → decimal_of text most ≡ Some n → WritesNumber text n × (n ≤ most)
unfolding decimal_of
decimal_sound text most n h =
    let (is, value) = cond_some (is_decimal text && nat_le (digits_value 10 text) most) (digits_value 10 text) n h in
    let (plain, low) = and_parts _ _ is in
    let (some, digits) = and_parts _ _ plain in
    let within : digits_value 10 text ≤ most = leb-true _ _ low in
    (((ltb-true _ _ some, own.to text digits), value), omega (arith, within, value))

pub decimal_complete : (text : List ℕ) (most n : ℕ) → WritesNumber text n → n ≤ most → decimal_of text most ≡ Some n
unfolding decimal_of
decimal_complete text most n writes within =
    let some = lt-ltb 0 (length text) writes.0.0 in
    let digits : AreDigits text = own.from text writes.0.1 in
    let low = le-leb (digits_value 10 text) most (omega (arith, within, writes.1)) in
    let is : (is_decimal text && nat_le (digits_value 10 text) most) ≡ true = and_from _ _ (and_from _ _ some digits) low in
    cond-true _ _ None is ∙ ap Some writes.1

-- so many digits write a number that is not longer
pub short_digits : (text : List ℕ) (k : ℕ) → list_all is_ascii_digit text ≡ true → length text ≤ k → digits_value 10 text < 10 ^ k
short_digits text k digits few = digits_value_short own text k digits few

pub short_value : (text : List ℕ) (n k : ℕ) → WritesNumber text n → length text ≤ k → n < 10 ^ k
short_value text n k writes few = omega (arith, writes.1, digits_value_short own text k (own.from text writes.0.1) few)
