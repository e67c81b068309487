-- Parts that a search for a letter passes over name no language that begins with it.
use Rattle.std.proofs.Common.{◌≡◌, ℕ, ◌<◌, ◌≤◌, ◌==◌, true, false, List, [], ◌∷◌, ◌++◌, length, get_or, map, refl, sym, ◌∙◌, ap, subst, inl, inr, ◌⊎◌, arith}
use Rattle.std.specs.Char.{to_ascii_lowercase, to_ascii_uppercase}
use Rattle.std.specs.List.{list_any}
use Rattle.std.specs.Str.Iter.{HasSubslice}
use Rattle.std.specs.Str.{str_to_ascii_lowercase}
use Rattle.std.proofs.Math.Bool.{or-true}
use Rattle.std.proofs.lemmas.Bool.{eq-eqb, cases_lt, false_from_ne_true}
use Rattle.std.proofs.lemmas.List.{get_or_append_left, get_or_default, append-nil}
use Rattle.std.proofs.lemmas.List.Elements.{Contains-append_left, Contains-append_right}
use Rattle.std.proofs.lemmas.Slice.Eq.{bytes_eq-Decides}
use Rattle.std.proofs.lemmas.Str.Ascii.{lowercase_is, uppercase_is}
use Rattle.memchr.specs.Find.{Nowhere, Passes, is_byte2}
use Rattle.edge_types.specs.Blanks.{trimmed}
use Rattle.edge_types.proofs.TrimLemmas.{trims_texts}
use Rattle.esi_vars.specs.Field.{parts_between, halves, names_language}
use Rattle.esi_vars.specs.Finds.{AreHalves, BeginsPart, HasLetter, HasFirstLetter}
use Rattle.esi_vars.proofs.FieldTheorems.{are_halves}
use Rattle.esi_vars.proofs.SearchLemmas.{front_passed, all_passed}

-- what is a letter but for its case is one of the two
same_letter : (b letter : ℕ) → to_ascii_lowercase b ≡ to_ascii_lowercase letter → is_byte2 (to_ascii_lowercase letter) (to_ascii_uppercase letter) b ≡ true
same_letter b letter same = by_size (cases_lt b 65) (cases_lt 90 b)
  where
    as_lower : b ≡ to_ascii_lowercase letter → is_byte2 (to_ascii_lowercase letter) (to_ascii_uppercase letter) b ≡ true
    as_lower is = rw (eq-eqb b (to_ascii_lowercase letter) is) refl

    as_upper : b ≡ to_ascii_uppercase letter → is_byte2 (to_ascii_lowercase letter) (to_ascii_uppercase letter) b ≡ true
    as_upper is = rw (eq-eqb b (to_ascii_uppercase letter) is) (or-true (b == to_ascii_lowercase letter))

    by_letter : 65 ≤ b → b ≤ 90 → (letter < 65) ⊎ (65 ≤ letter) → (90 < letter) ⊎ (letter ≤ 90) → is_byte2 (to_ascii_lowercase letter) (to_ascii_uppercase letter) b ≡ true
    by_letter above below (inl less) _ = absurd (omega (arith, same, (lowercase_is b).0 (above, below), (lowercase_is letter).1 less))
    by_letter above below (inr from) (inl more) =
        as_upper (omega (arith, same, (lowercase_is b).0 (above, below), (lowercase_is letter).2 more, (uppercase_is letter).0 (omega (arith, same, (lowercase_is b).0 (above, below), (lowercase_is letter).2 more), omega (arith, same, (lowercase_is b).0 (above, below), (lowercase_is letter).2 more))))
    by_letter above below (inr from) (inr to) =
        as_upper (omega (arith, same, (lowercase_is b).0 (above, below), (lowercase_is letter).0 (from, to), (uppercase_is letter).1 (omega arith)))

    by_size : (b < 65) ⊎ (65 ≤ b) → (90 < b) ⊎ (b ≤ 90) → is_byte2 (to_ascii_lowercase letter) (to_ascii_uppercase letter) b ≡ true
    by_size (inl less) other = as_lower (sym ((lowercase_is b).1 less) ∙ same)
    by_size (inr above) (inl more) = as_lower (sym ((lowercase_is b).2 more) ∙ same)
    by_size (inr above) (inr below) = by_letter above below (cases_lt letter 65) (cases_lt 90 letter)

-- a text in which neither stands, as far as a front reaches, lacks the letter in the front
lacks_letter : (letter place : ℕ) (text front rest : List ℕ) → Nowhere (Passes (is_byte2 (to_ascii_lowercase letter) (to_ascii_uppercase letter)) text) 0 place
    → text ≡ front ++ rest → length front ≤ place → HasLetter letter front → ⊥
lacks_letter letter place text front rest nowhere whole short (b, (k, h, stands), same) =
    let at : get_or text k 0 ≡ b = ap (λ t. get_or t k 0) whole ∙ get_or_append_left front rest 0 k h ∙ get_or_default front k 0 b h ∙ stands in
    nowhere k (omega arith) (omega arith) (ap (is_byte2 (to_ascii_lowercase letter) (to_ascii_uppercase letter)) at ∙ same_letter b letter same)

-- what a search for the first letter of a language passes over
module _ (language : List ℕ) (low up : ℕ) (low_is : low ≡ to_ascii_lowercase (get_or language 0 0)) (up_is : up ≡ to_ascii_uppercase (get_or language 0 0)) (some : 1 ≤ length language) where
  lacks_first : (place : ℕ) (text front rest : List ℕ) → Nowhere (Passes (is_byte2 low up) text) 0 place → text ≡ front ++ rest → length front ≤ place → HasFirstLetter language front → ⊥
  lacks_first place text front rest nowhere whole short has =
      by_language language low_is up_is some has
    where
      by_language : (letters : List ℕ) → low ≡ to_ascii_lowercase (get_or letters 0 0) → up ≡ to_ascii_uppercase (get_or letters 0 0) → 1 ≤ length letters → HasFirstLetter letters front → ⊥
      by_language [] low_is up_is some has = absurd (omega arith)
      by_language (letter ∷ letters) low_is up_is some has =
          lacks_letter letter place text front rest (subst (λ b. Nowhere (Passes (is_byte2 b (to_ascii_uppercase letter)) text) 0 place) low_is (subst (λ b. Nowhere (Passes (is_byte2 low b) text) 0 place) up_is nowhere)) whole short has

  pub letter_nowhere : (text : List ℕ) → Nowhere (Passes (is_byte2 low up) text) 0 (length text) → HasFirstLetter language text → ⊥
  letter_nowhere text nowhere has = lacks_first (length text) text text [] nowhere (sym (append-nil text)) (omega arith) has

  pub letter_behind : (c place : ℕ) (text rest : List ℕ) → Nowhere (Passes (is_byte2 low up) text) 0 place
      → BeginsPart c (λ front. length front < place) text rest → BeginsPart c (λ front. ¬ HasFirstLetter language front) text rest
  letter_behind c place text rest nowhere (inl whole) = inl whole
  letter_behind c place text rest nowhere (inr (front, short, whole)) = inr (front, lacks_first place text front (c ∷ rest) nowhere whole (omega arith), whole)

first_wider : (language a b c : List ℕ) → HasFirstLetter language b → HasFirstLetter language (a ++ (b ++ c))
first_wider [] a b c has = has
first_wider (letter ∷ letters) a b c (x, has, same) = (x, Contains-append_right a (b ++ c) x (Contains-append_left b c x has), same)

-- a language has the first letter of one that is the same but for case
same_first : (language range : List ℕ) → map to_ascii_lowercase range ≡ map to_ascii_lowercase language → HasFirstLetter language range
same_first [] range same = tt
same_first (letter ∷ letters) [] same = absurd (cc)
same_first (letter ∷ letters) (b ∷ bs) same = (b, (0, omega arith, refl), cc)

front_of : (c : ℕ) (part : List ℕ) (both : List ℕ × List ℕ) → AreHalves c part both → HasSubslice part both.0
front_of c part both (lacks, inl whole) = ([], c ∷ both.1, whole)
front_of c part both (lacks, inr (whole, none)) = ([], [], whole ∙ sym (append-nil both.0))

names_first : (language part : List ℕ) → names_language language part ≡ true → HasFirstLetter language part
unfolding names_language
names_first language part is =
    let front = (halves 59 part).0 in
    let range = trimmed front in
    let has = same_first language range ((bytes_eq-Decides (str_to_ascii_lowercase range) (str_to_ascii_lowercase language)).0 is) in
    let cut = (trims_texts front range).0 refl in
    let in_front = subst (HasFirstLetter language) (sym cut.whole) (first_wider language cut.left range cut.right has) in
    let part_is = front_of 59 part (halves 59 part) (are_halves 59 part) in
    subst (HasFirstLetter language) (sym part_is.2) (first_wider language part_is.0 front part_is.1 in_front)

other_language : (language part : List ℕ) (parts : List (List ℕ)) → (HasFirstLetter language part → ⊥) → list_any (names_language language) (part ∷ parts) ≡ list_any (names_language language) parts
other_language language part parts lacks = rw (false_from_ne_true (names_language language part) (λ is. lacks (names_first language part is))) refl

pub language_passed : (language text rest : List ℕ) → BeginsPart 44 (λ front. ¬ HasFirstLetter language front) text rest
    → list_any (names_language language) (parts_between 44 text) ≡ list_any (names_language language) (parts_between 44 rest)
language_passed language text rest begins =
    front_passed (HasFirstLetter language) (first_wider language) (list_any (names_language language)) (other_language language) 44 text rest begins

pub no_language : (language text : List ℕ) → (HasFirstLetter language text → ⊥) → list_any (names_language language) (parts_between 44 text) ≡ false
no_language language text lacks = all_passed (HasFirstLetter language) (first_wider language) (list_any (names_language language)) (other_language language) 44 text lacks

-- a part that names another language is passed over
pub other_part : (language part : List ℕ) (parts left : List (List ℕ)) → parts ≡ part ∷ left → names_language language part ≡ false → list_any (names_language language) parts ≡ list_any (names_language language) left
other_part language part parts left all other = rw (all, other) refl
