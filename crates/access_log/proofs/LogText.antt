-- What waits in the queue stays the bytes of lines.
use Rattle.std.proofs.Common.{◌≡◌, ℕ, zero, suc, ◌<◌, ◌==◌, Result, Ok, Err, true, List, [], ◌∷◌, ◌++◌, take, drop, codes, refl, sym, ◌∙◌, subst, arith}
use Rattle.std.specs.List.{list_all}
use Rattle.std.specs.Result.{MatchResult, is_ok}
use Rattle.std.specs.Str.{IsAscii, IsUtf8, byte}
use Rattle.std.proofs.lemmas.Bool.{and_from, and_parts, or_left}
use Rattle.std.proofs.lemmas.Bool.Decides.{nat_tests}
use Rattle.std.proofs.lemmas.List.Folds.{list_all-append}
use Rattle.std.proofs.lemmas.Str.{IsUtf8-from_ascii}
use Rattle.std.proofs.lemmas.Str.Ascii.{IsAscii-nil, IsAscii-cons}
use Rattle.access_log.specs.Text.{is_log_byte, is_printable, IsLine, IsLogText, IsPrintable}

pub joined : (xs ys : List ℕ) → IsLogText xs → IsLogText ys → IsLogText (xs ++ ys)
joined xs ys p q = list_all-append is_log_byte xs ys ∙ and_from (list_all is_log_byte xs) (list_all is_log_byte ys) p q

parts : (b : ℕ) (rest : List ℕ) → IsLogText (b ∷ rest) → (is_log_byte b ≡ true) × IsLogText rest
parts b rest p = and_parts (is_log_byte b) (list_all is_log_byte rest) p

pub front : (n : ℕ) (xs : List ℕ) → IsLogText xs → IsLogText (take n xs)
front zero xs p = refl
front (suc n) [] p = refl
front (suc n) (b ∷ rest) p =
    let both = parts b rest p in
    and_from (is_log_byte b) (list_all is_log_byte (take n rest)) both.0 (front n rest both.1)

pub after : (n : ℕ) (xs : List ℕ) → IsLogText xs → IsLogText (drop n xs)
after zero xs p = p
after (suc n) [] p = refl
after (suc n) (b ∷ rest) p = after n rest (parts b rest p).1

printed : (xs : List ℕ) → IsPrintable xs → IsLogText xs
printed [] p = refl
printed (b ∷ rest) p =
    let both : (is_printable b ≡ true) × IsPrintable rest = and_parts (is_printable b) (list_all is_printable rest) p in
    let here : is_log_byte b ≡ true = or_left (is_printable b) (b == byte "\n") both.0 in
    and_from (is_log_byte b) (list_all is_log_byte rest) here (printed rest both.1)

pub line : (xs : List ℕ) → IsLine xs → IsLogText xs
line xs p = subst IsLogText (sym p.2) (joined p.0 (codes "\n") (printed p.0 p.1) refl)

below : (b : ℕ) → is_log_byte b ≡ true → b < 128
below b p = grind (arith, nat_tests)

ascii : (xs : List ℕ) → IsLogText xs → IsAscii xs
ascii [] p = IsAscii-nil
ascii (b ∷ rest) p =
    let both = parts b rest p in
    IsAscii-cons b rest (below b both.0) (ascii rest both.1)

pub utf8 : (xs : List ℕ) → IsLogText xs → IsUtf8 xs
utf8 xs p = IsUtf8-from_ascii xs (ascii xs p)

-- what is refused only where T fails is accepted where it holds
pub accepted : {A E : Type 0} (T : Type 0) (P : A → Type 0) (Q : E → Type 0) (r : Result A E) → T → MatchResult r P (λ e. (T → ⊥) × Q e) → is_ok r ≡ true
accepted T P Q (Ok a) holds cases = refl
accepted T P Q (Err e) holds cases = absurd (cases.0 holds)
