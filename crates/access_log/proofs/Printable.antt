-- The parts of lines are printable.
use Rattle.std.proofs.Common.{◌≡◌, ℕ, zero, suc, ◌/◌, ◌%◌, ◌<◌, ◌==◌, true, false, List, [], ◌∷◌, ◌++◌, take, drop, decimal, refl, ◌∙◌, arith}
use Rattle.std.specs.List.{list_all}
use Rattle.std.specs.Fmt.{digits, digits_onto, digit_glyph}
use Rattle.std.proofs.lemmas.Bool.{and_from, and_parts, cond_both}
use Rattle.std.proofs.lemmas.Bool.Decides.{nat_tests}
use Rattle.std.proofs.lemmas.List.Folds.{list_all-append}
use Rattle.access_log.specs.Text.{is_printable, IsPrintable}

-- `IsPrintable`, in a record so that antt reads the list off a goal
pub record Printable (text : List ℕ) : Type 0 where
  pub each : IsPrintable text

pub text : (xs : List ℕ) → IsPrintable xs → Printable xs
text xs is = record { each = is }

pub and : (xs ys : List ℕ) → Printable xs → Printable ys → Printable (xs ++ ys)
and xs ys p q = record { each = list_all-append is_printable xs ys ∙ and_from (list_all is_printable xs) (list_all is_printable ys) p.each q.each }

pub cons : (b : ℕ) (xs : List ℕ) → is_printable b ≡ true → Printable xs → Printable (b ∷ xs)
cons b xs p q = record { each = and_from (is_printable b) (list_all is_printable xs) p q.each }

pub front : (n : ℕ) (xs : List ℕ) → Printable xs → Printable (take n xs)
front zero xs p = text [] refl
front (suc n) [] p = text [] refl
front (suc n) (x ∷ xs) p =
    let both : (is_printable x ≡ true) × IsPrintable xs = and_parts (is_printable x) (list_all is_printable xs) p.each in
    cons x (take n xs) both.0 (front n xs (text xs both.1))

pub rest : (n : ℕ) (xs : List ℕ) → Printable xs → Printable (drop n xs)
rest zero xs p = p
rest (suc n) [] p = text [] refl
rest (suc n) (x ∷ xs) p =
    let both : (is_printable x ≡ true) × IsPrintable xs = and_parts (is_printable x) (list_all is_printable xs) p.each in
    rest n xs (text xs both.1)

-- ---- numbers

digit : (d : ℕ) → d < 10 → is_printable (digit_glyph false d) ≡ true
digit d h = grind (arith, nat_tests)

digits_before : (k n : ℕ) (after : List ℕ) → Printable after → Printable (digits_onto k 10 false n after)
digits_before zero n after p = p
digits_before (suc k) n after p =
    let here : Printable (digit_glyph false (n % 10) ∷ after) = cons (digit_glyph false (n % 10)) after (digit (n % 10) (omega arith)) p in
    cond_both (n / 10 == 0) _ _ Printable (λ _. here) (λ _. digits_before k (n / 10) _ here)

pub number : (n : ℕ) → Printable (decimal n)
unfolding digits
number n = digits_before 64 n [] (text [] refl)
