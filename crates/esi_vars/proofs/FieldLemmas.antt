-- The parts of a field, one after another.
use Rattle.std.proofs.Common.{◌≡◌, ℕ, ◌+◌, ◌<◌, ◌≤◌, ◌==◌, nat_lt, Bool, true, false, List, [], ◌∷◌, length, take, drop, Option, Some, None, refl, sym, ◌∙◌, ap, arith, map, bytes_eq, codes}
use Rattle.std.specs.List.{position_or_len, list_any}
use Rattle.std.proofs.lemmas.List.Splits.{slice_split_first, slice_split_none}
use Rattle.std.proofs.lemmas.List.Sums.{fails_before_first}
use Rattle.std.proofs.lemmas.List.{length-drop}
use Rattle.std.proofs.lemmas.Option.{none-some}
use Rattle.std.specs.Borrow.{Bor}
use Rattle.edge_types.specs.Halves.{around}
use Rattle.esi_vars.specs.Field.{parts_between, halves, named, cookie_value, query_value, names_language, language_value}
use Rattle.edge_types.specs.Blanks.{trimmed}

-- how much of a field is left to read
abbrev pub len_left : Option (Bor (List ℕ)) → ℕ
len_left None = 0
len_left (Some text) = length text.now + 1

-- what a cut found
pub record Cuts (c : ℕ) (text part rest : List ℕ) : Type 0 where
  pub parts : part ∷ parts_between c rest ≡ parts_between c text
  pub shorter : length rest < length text

abbrev first_half : Option (List ℕ × List ℕ) → List ℕ
first_half None = []
first_half (Some x) = x.0

abbrev second_half : Option (List ℕ × List ℕ) → List ℕ
second_half None = []
second_half (Some x) = x.1

cuts_by : (c : ℕ) (text part rest : List ℕ) (b : Bool) → nat_lt (position_or_len (λ x. x == c) text) (length text) ≡ b
    → Some (part, rest) ≡ around c text → Cuts c text part rest
unfolding around
cuts_by c text part rest true within found =
    let n = position_or_len (λ (x : ℕ). x == c) text in
    let some : Some (part, rest) ≡ Some (take n text, drop (n + 1) text) = found ∙ rw within refl in
    let part_is : part ≡ take n text = ap first_half some in
    let rest_is : rest ≡ drop (n + 1) text = ap second_half some in
    let less : n < length text = grind (arith, within) in
    record {
      parts = rw (part_is, rest_is) (sym (slice_split_first (λ x. x == c) text 0 less));
      shorter = rw rest_is (omega (arith, length-drop (n + 1) text));
    }
cuts_by c text part rest false within found =
    let none : None ≡ Some (part, rest) = sym (found ∙ rw within refl) in
    absurd (none-some _ none)

pub cuts : (c : ℕ) (text part rest : List ℕ) → Some (part, rest) ≡ around c text → Cuts c text part rest
cuts c text part rest found = cuts_by c text part rest _ refl found

uncut_by : (c : ℕ) (text : List ℕ) (b : Bool) → nat_lt (position_or_len (λ x. x == c) text) (length text) ≡ b
    → None ≡ around c text → text ∷ [] ≡ parts_between c text
unfolding around
uncut_by c text true within none =
    let some : None ≡ Some (take (position_or_len (λ (x : ℕ). x == c) text) text, drop (position_or_len (λ (x : ℕ). x == c) text + 1) text) = none ∙ rw within refl in
    absurd (cc)
uncut_by c text false within none =
    let all : length text ≤ position_or_len (λ (x : ℕ). x == c) text = grind (arith, within) in
    sym (slice_split_none (λ x. x == c) text (λ k d h. fails_before_first (λ x. x == c) text k d (omega arith)))

pub uncut : (c : ℕ) (text : List ℕ) → None ≡ around c text → text ∷ [] ≡ parts_between c text
uncut c text none = uncut_by c text _ refl none

-- a part of the name that is asked for settles the search
pub named_found : (name part found value : List ℕ) (parts left : List (List ℕ)) → parts ≡ part ∷ left → (found, value) ≡ halves 61 part → bytes_eq found name ≡ true → value ≡ named name parts
unfolding named
named_found name part found value parts left all cut same = rw (all, ← cut, same) refl

-- and one of another name is passed over
pub named_later : (name part found value : List ℕ) (parts left : List (List ℕ)) → parts ≡ part ∷ left → (found, value) ≡ halves 61 part → bytes_eq found name ≡ false → named name parts ≡ named name left
unfolding named
named_later name part found value parts left all cut other = rw (all, ← cut, other) refl

pub named_none : (name : List ℕ) → named name [] ≡ []
unfolding named
named_none name = refl

pub cookie_starts : (name field : List ℕ) → named name (map trimmed (parts_between 59 field)) ≡ cookie_value name field
unfolding cookie_value
cookie_starts name field = refl

pub query_starts : (name field : List ℕ) → named name (parts_between 38 field) ≡ query_value name field
unfolding query_value
query_starts name field = refl

pub language_found : (language part field : List ℕ) (parts left : List (List ℕ)) → parts ≡ part ∷ left → names_language language part ≡ true
    → list_any (names_language language) parts ≡ list_any (names_language language) (parts_between 44 field) → codes "true" ≡ language_value language field
unfolding language_value
language_found language part field parts left all same is =
    let here : list_any (names_language language) parts ≡ true = rw (all, same) refl in
    let any : list_any (names_language language) (parts_between 44 field) ≡ true = sym is ∙ here in
    rw any refl

pub language_none : (language field : List ℕ) → false ≡ list_any (names_language language) (parts_between 44 field) → [] ≡ language_value language field
unfolding language_value
language_none language field none = rw (← none) refl
