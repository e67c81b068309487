-- A date is printable.
use Rattle.std.proofs.Common.{◌≡◌, ℕ, zero, suc, ◌+◌, ◌-◌, ◌/◌, ◌%◌, ◌<◌, true, List, [], ◌∷◌, ◌++◌, get_or, codes, refl, sym, subst, arith}
use Rattle.std.specs.List.{list_all}
use Rattle.std.proofs.lemmas.Bool.{and_parts}
use Rattle.std.proofs.lemmas.Bool.Decides.{nat_tests}
use Rattle.httpdate.specs.Date.{date_text}
use Rattle.httpdate.specs.Text.{day_name, four_digits, month_name, time_of_day, two_digits}
use Rattle.httpdate.specs.declared.date.HttpDate.{HttpDate}
use Rattle.access_log.specs.Clock.{IsDateOf}
use Rattle.access_log.specs.Text.{is_printable, IsPrintable}
use Rattle.access_log.proofs.Printable.{Printable, and, cons, text}

abbrev months : List (List ℕ)
months = codes "Jan" ∷ codes "Feb" ∷ codes "Mar" ∷ codes "Apr" ∷ codes "May" ∷ codes "Jun" ∷ codes "Jul" ∷ codes "Aug" ∷ codes "Sep" ∷ codes "Oct" ∷ codes "Nov" ∷ codes "Dec" ∷ []

abbrev days : List (List ℕ)
days = codes "Mon" ∷ codes "Tue" ∷ codes "Wed" ∷ codes "Thu" ∷ codes "Fri" ∷ codes "Sat" ∷ codes "Sun" ∷ []

name : (names : List (List ℕ)) (i : ℕ) → list_all (list_all is_printable) names ≡ true → Printable (get_or names i [])
name [] i each = text [] refl
name (first ∷ others) zero each =
    let both : IsPrintable first × (list_all (list_all is_printable) others ≡ true) = and_parts (list_all is_printable first) (list_all (list_all is_printable) others) each in
    text first both.0
name (first ∷ others) (suc i) each =
    let both : IsPrintable first × (list_all (list_all is_printable) others ≡ true) = and_parts (list_all is_printable first) (list_all (list_all is_printable) others) each in
    name others i both.1

two : (n : ℕ) → n < 100 → Printable (two_digits n)
two n h =
    let tens : is_printable (48 + n / 10) ≡ true = grind (arith, nat_tests) in
    let units : is_printable (48 + n % 10) ≡ true = grind (arith, nat_tests) in
    cons (48 + n / 10) ((48 + n % 10) ∷ []) tens (cons (48 + n % 10) [] units (text [] refl))

four : (n : ℕ) → n < 10_000 → Printable (four_digits n)
four n h = and (two_digits (n / 100)) (two_digits (n % 100)) (two (n / 100) (omega arith)) (two (n % 100) (omega arith))

clock : (date : HttpDate) → Printable (time_of_day date.parts)
clock date =
    let hour = two date.parts.hour (omega (arith, date.time)) in
    let minute = two date.parts.min (omega (arith, date.time)) in
    let second = two date.parts.sec (omega (arith, date.time)) in
    let colon = text (codes ":") refl in
    and (two_digits date.parts.hour ++ codes ":" ++ two_digits date.parts.min ++ codes ":") (two_digits date.parts.sec)
    (and (two_digits date.parts.hour ++ codes ":" ++ two_digits date.parts.min) (codes ":")
    (and (two_digits date.parts.hour ++ codes ":") (two_digits date.parts.min) (and (two_digits date.parts.hour) (codes ":") hour colon) minute) colon) second

date_printed : (date : HttpDate) → Printable (date_text date)
date_printed date =
    let p = date.parts in
    let space = text (codes " ") refl in
    let day = two p.day (grind (arith, date.civil.2.1)) in
    let month = name months (p.mon - 1) refl in
    let year = four p.year (omega (arith, date.civil.0)) in
    let weekday = and (day_name p.wday) (codes ", ") (name days (p.wday - 1) refl) (text (codes ", ") refl) in
    let with_day = and _ (codes " ") (and _ (two_digits p.day) weekday day) space in
    let with_month = and _ (codes " ") (and _ (month_name p.mon) with_day month) space in
    let with_year = and _ (codes " ") (and _ (four_digits p.year) with_month year) space in
    and _ (codes " GMT") (and _ (time_of_day p) with_year (clock date)) (text (codes " GMT") refl)

pub printed : (second : ℕ) (date : List ℕ) → IsDateOf second date → IsPrintable date
printed second date is = subst IsPrintable (sym is.2) (date_printed is.0).each
