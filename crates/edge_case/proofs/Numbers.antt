-- Numbers as lines write them: what is read is written so, and what is written so is read.
use Rattle.std.proofs.Common.{◌≡◌, ◌≢◌, ℕ, ◌^◌, ◌<◌, ◌≤◌, ◌&&◌, Bool, true, false, cond, nat_le, nat_lt, not, List, [], ◌∷◌, length, get_or, refl, sym, ◌∙◌, ap, Some, None, arith, decimal, inl, inr}
use Rattle.std.proofs.lemmas.Bool.{and_parts, and_from, not-true, not_from_false, ltb-true, lt-ltb, lt-leb, leb-true, le-leb, eqb-false, ne_eqb, cond-true, cases_eq}
use Rattle.std.proofs.lemmas.Fmt.{decimal-digits_value, digits_decimal, digits_value-decimal, decimal_nonempty, length-decimal-le, first_decimal, decimal_digit}
use Rattle.std.proofs.lemmas.Str.Parse.{digits_value_short, not_in_digits}
use Rattle.std.specs.Char.{is_ascii_digit}
use Rattle.std.specs.List.{list_all}
use Rattle.std.specs.Str.Parse.{digits_value}
use Rattle.edge_types.specs.Decimal.{decimal_of}
use Rattle.edge_types.proofs.DecimalLemmas.{AreDigits, own, short_digits}
use Rattle.edge_case.specs.declared.number.TheConstants.{MAX_DIGITS, MAX_NUMBER}
use Rattle.edge_case.specs.Reading.{has_needless_zero, is_number, number_of}
use Rattle.edge_case.proofs.Steps.{guarded}

-- a zero alone is no needless one
needless : (text : List ℕ) → has_needless_zero text ≡ false → 0 < length text → get_or text 0 0 ≡ 48 → length text ≡ 1
needless [] h some zero = omega arith
needless (d ∷ []) h some zero = refl
needless (d ∷ e ∷ ds) h some zero = absurd (eqb-false d 48 h zero)

needed : (text : List ℕ) → 48 < get_or text 0 0 → has_needless_zero text ≡ false
needed [] h = refl
needed (d ∷ []) h = refl
needed (d ∷ e ∷ ds) h = ne_eqb d 48 (omega arith)

pub number_sound : (text : List ℕ) (n : ℕ) → number_of text ≡ Some n → text ≡ decimal n
unfolding number_of is_number
number_sound text n h =
    let (is, value) = guarded (is_number text) (digits_value 10 text) n h in
    let (some, more) = and_parts _ _ is in
    let (short, rest) = and_parts _ _ more in
    let (plain, digits) = and_parts _ _ rest in
    let nonempty : 0 < length text = ltb-true _ _ some in
    let few : length text ≤ 6 = leb-true _ _ short in
    let small : digits_value 10 text < 10 ^ 6 = digits_value_short own text 6 digits few in
    sym (decimal-digits_value own text digits nonempty (needless text (not-true _ plain) nonempty) (omega arith)) ∙ ap decimal value

zero_or_not : (n : ℕ) → n < 1000000 → has_needless_zero (decimal n) ≡ false
zero_or_not n small =
    elim (cases_eq n 0) [
      | inl zero ↦ rw (zero, decimal_digit 0 (omega arith)) refl
      | inr some ↦ needed (decimal n) (first_decimal n (let positive : 0 < n = omega arith in positive) (omega arith))
    ]

pub number_complete : (n : ℕ) → n < 1000000 → number_of (decimal n) ≡ Some n
unfolding number_of is_number
number_complete n small =
    let big : n < 2 ^ 64 = omega arith in
    let nonempty = lt-ltb 0 (length (decimal n)) (decimal_nonempty n big) in
    let few = le-leb (length (decimal n)) 6 (length-decimal-le 6 n (omega arith) (omega arith) big) in
    let plain = not_from_false (has_needless_zero (decimal n)) (zero_or_not n small) in
    let digits : AreDigits (decimal n) = digits_decimal own n big in
    let is : is_number (decimal n) ≡ true = and_from _ _ nonempty (and_from _ _ few (and_from _ _ plain digits)) in
    cond-true _ _ None is ∙ ap Some (digits_value-decimal own n big)

-- a number has no byte but digits
pub decimal_lacks : (n mark : ℕ) → n < 1000000 → mark < 48 → (i : ℕ) → i < length (decimal n) → get_or (decimal n) i 0 ≢ mark
decimal_lacks n mark small low = not_in_digits own (decimal n) mark (digits_decimal own n (omega arith)) (λ range. omega (arith, range.0))

-- ---- as the code reads them

-- more digits than there may be
pub too_long : (text : List ℕ) → MAX_DIGITS < length text → number_of text ≡ None
unfolding number_of is_number
too_long text long = by (nat_lt 0 (length text)) (nat_le (length text) MAX_DIGITS) (lt-leb _ _ long)
  where
    by : (b c : Bool) → c ≡ false → cond (b && (c && (not (has_needless_zero text) && list_all is_ascii_digit text))) (Some (digits_value 10 text)) None ≡ None
    by true c e = rw e refl
    by false c e = refl

-- a needless zero
pub zero_first : (text : List ℕ) → has_needless_zero text ≡ true → number_of text ≡ None
unfolding number_of is_number
zero_first text zero = rw zero (by (nat_lt 0 (length text)) (nat_le (length text) MAX_DIGITS))
  where
    by : (b c : Bool) → cond (b && (c && false)) (Some (digits_value 10 text)) None ≡ None
    by true true = refl
    by true false = refl
    by false c = refl

-- digits enough, and no needless zero
pub plain_number : (text : List ℕ) → length text ≤ MAX_DIGITS → has_needless_zero text ≡ false → decimal_of text MAX_NUMBER ≡ number_of text
unfolding number_of is_number decimal_of
plain_number text short plain = rw (plain, le-leb _ _ short) (by (nat_lt 0 (length text)) (list_all is_ascii_digit text) refl)
  where
    by : (b d : Bool) → list_all is_ascii_digit text ≡ d → cond ((b && d) && nat_le (digits_value 10 text) MAX_NUMBER) (Some (digits_value 10 text)) None ≡ cond (b && d) (Some (digits_value 10 text)) None
    by true true e = let small : digits_value 10 text < 10 ^ 6 = short_digits text 6 e short in rw (le-leb (digits_value 10 text) MAX_NUMBER (omega (arith, small))) refl
    by true false e = refl
    by false d e = refl
