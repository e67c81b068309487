-- Parts that a search passes over are of another name.
use Rattle.std.proofs.Common.{◌≡◌, ℕ, ◌+◌, ◌<◌, ◌==◌, Bool, true, false, List, [], ◌∷◌, ◌++◌, length, take, drop, map, bytes_eq, refl, sym, ◌∙◌, ap, subst, inl, inr, append_assoc, arith}
use Rattle.std.specs.List.{All, Contains, join_with_byte}
use Rattle.std.specs.Str.Iter.{HasSubslice}
use Rattle.std.proofs.lemmas.Bool.{eq-eqb}
use Rattle.std.proofs.lemmas.List.{take_at, drop_at, length-append, append-nil}
use Rattle.std.proofs.lemmas.List.Elements.{All-nil, All-cons, All-head, All-tail}
use Rattle.std.proofs.lemmas.List.Splits.{slice_split_at, join_with_byte-slice_split}
use Rattle.memchr.specs.Find.{Nowhere, OccursAt}
use Rattle.memchr.proofs.lemmas.MatchLemmas.{OccursAt-from_part}
use Rattle.edge_types.specs.Blanks.{trimmed}
use Rattle.edge_types.proofs.TrimLemmas.{trims_texts}
use Rattle.esi_vars.specs.Field.{parts_between, halves, named}
use Rattle.esi_vars.specs.Finds.{AreParts, AreHalves, BeginsPart}
use Rattle.esi_vars.proofs.FieldTheorems.{cuts_fields, other_bytes, has_name, named_elsewhere, named_nowhere}

-- the parts of a field whose front ends with the separator are those of the front, and then those of the rest
parts_again : (c : ℕ) (part : List ℕ) (parts : List (List ℕ)) (rest : List ℕ) → All (λ p. Contains p c → ⊥) (part ∷ parts)
    → parts_between c (join_with_byte c (part ∷ parts) ++ c ∷ rest) ≡ (part ∷ parts) ++ parts_between c rest
parts_again c part [] rest uncut =
    slice_split_at (λ b. b == c) part c rest (other_bytes c part (All-head (λ p. Contains p c → ⊥) part [] uncut)) (eq-eqb c c refl)
parts_again c part (next ∷ parts) rest uncut =
    let later = join_with_byte c (next ∷ parts) in
    ap (parts_between c) (append_assoc part (c ∷ later) (c ∷ rest))
    ∙ slice_split_at (λ b. b == c) part c (later ++ c ∷ rest) (other_bytes c part (All-head (λ p. Contains p c → ⊥) part (next ∷ parts) uncut)) (eq-eqb c c refl)
    ∙ ap (λ ps. part ∷ ps) (parts_again c next parts rest (All-tail (λ p. Contains p c → ⊥) part (next ∷ parts) uncut))

parts_behind : (c : ℕ) (front rest : List ℕ) → parts_between c (front ++ c ∷ rest) ≡ parts_between c front ++ parts_between c rest
parts_behind c front rest = by_parts (parts_between c front) ((cuts_fields c front (parts_between c front)).0 refl)
  where
    by_parts : (parts : List (List ℕ)) → AreParts c front parts → parts_between c (front ++ c ∷ rest) ≡ parts ++ parts_between c rest
    by_parts [] are = absurd (omega (arith, are.some))
    by_parts (part ∷ parts) are = ap (λ f. parts_between c (f ++ c ∷ rest)) (sym are.whole) ∙ parts_again c part parts rest are.uncut

-- what a field lacks, each of its parts lacks
module _ (Has : List ℕ → Type 0) (widens : (a b c : List ℕ) → Has b → Has (a ++ (b ++ c))) where
  joined_lack : (c : ℕ) (parts : List (List ℕ)) → (Has (join_with_byte c parts) → ⊥) → All (λ p. Has p → ⊥) parts
  joined_lack c [] lacks = All-nil (λ p. Has p → ⊥)
  joined_lack c (part ∷ []) lacks = All-cons (λ p. Has p → ⊥) part [] lacks (All-nil (λ p. Has p → ⊥))
  joined_lack c (part ∷ next ∷ parts) lacks =
      let later = join_with_byte c (next ∷ parts) in
      let behind : part ++ ((c ∷ []) ++ later) ≡ (part ++ c ∷ []) ++ (later ++ []) = (simp (append_assoc, append-nil)) in
      All-cons (λ p. Has p → ⊥) part (next ∷ parts) (λ has. lacks (widens [] part (c ∷ later) has))
      (joined_lack c (next ∷ parts) (λ has. lacks (subst Has (sym behind) (widens (part ++ c ∷ []) later [] has))))

  parts_lack : (c : ℕ) (text : List ℕ) → (Has text → ⊥) → All (λ p. Has p → ⊥) (parts_between c text)
  parts_lack c text lacks = joined_lack c (parts_between c text) (λ has. lacks (subst Has (join_with_byte-slice_split c text) has))

  -- so a value that parts which lack it don't change is that of the rest behind a front that lacks it
  module _ {A : Type 0} (value : List (List ℕ) → A) (passes : (part : List ℕ) (parts : List (List ℕ)) → (Has part → ⊥) → value (part ∷ parts) ≡ value parts) where
    each_passed : (parts later : List (List ℕ)) → All (λ p. Has p → ⊥) parts → value (parts ++ later) ≡ value later
    each_passed [] later lack = refl
    each_passed (part ∷ parts) later lack =
        passes part (parts ++ later) (All-head (λ p. Has p → ⊥) part parts lack) ∙ each_passed parts later (All-tail (λ p. Has p → ⊥) part parts lack)

    pub front_passed : (c : ℕ) (text rest : List ℕ) → BeginsPart c (λ front. ¬ Has front) text rest → value (parts_between c text) ≡ value (parts_between c rest)
    front_passed c text rest (inl whole) = ap (λ t. value (parts_between c t)) (sym whole)
    front_passed c text rest (inr (front, lacks, whole)) =
        ap (λ t. value (parts_between c t)) whole ∙ ap value (parts_behind c front rest) ∙ each_passed (parts_between c front) (parts_between c rest) (parts_lack c front lacks)

    pub all_passed : (c : ℕ) (text : List ℕ) → (Has text → ⊥) → value (parts_between c text) ≡ value []
    all_passed c text lacks = ap value (sym (append-nil (parts_between c text))) ∙ each_passed (parts_between c text) [] (parts_lack c text lacks)

-- a word that stands behind a front occurs there
occurs_behind : (front word rest text : List ℕ) → text ≡ front ++ (word ++ rest) → OccursAt text word (length front)
occurs_behind front word rest text whole =
    let cut : drop (length front) text ≡ word ++ rest = ap (drop (length front)) whole ∙ drop_at front (word ++ rest) (length front) refl in
    let here : take (length word) (drop (length front) text) ≡ word = ap (take (length word)) cut ∙ take_at word rest (length word) refl in
    OccursAt-from_part text word (length front) (omega (arith, ap length whole, length-append front (word ++ rest), length-append word rest)) here

-- a text in which it occurs at no place lacks it
pub lacks_word : (text word : List ℕ) → Nowhere (OccursAt text word) 0 (length text + 1) → HasSubslice text word → ⊥
lacks_word text word nowhere (front, rest, whole) =
    nowhere (length front) (omega arith) (omega (arith, ap length whole, length-append front (word ++ rest))) (occurs_behind front word rest text whole)

-- and so does a front that ends before the first place
front_lacks : (c place : ℕ) (text word front rest : List ℕ) → Nowhere (OccursAt text word) 0 place → length front < place → text ≡ front ++ c ∷ rest → HasSubslice front word → ⊥
front_lacks c place text word front rest nowhere short whole (before, behind, is) =
    let text_is : text ≡ before ++ (word ++ (behind ++ c ∷ rest)) = whole ∙ ap (λ f. f ++ c ∷ rest) is ∙ (simp append_assoc) in
    nowhere (length before) (omega arith) (omega (arith, ap length is, length-append before (word ++ behind))) (occurs_behind before word (behind ++ c ∷ rest) text text_is)

pub begins_behind_lack : (c place : ℕ) (text word rest : List ℕ) → Nowhere (OccursAt text word) 0 place → BeginsPart c (λ front. length front < place) text rest → BeginsPart c (λ front. ¬ HasSubslice front word) text rest
begins_behind_lack c place text word rest nowhere (inl whole) = inl whole
begins_behind_lack c place text word rest nowhere (inr (front, short, whole)) =
    inr (front, front_lacks c place text word front rest nowhere short whole, whole)

stands_wider : (word a b c : List ℕ) → HasSubslice b word → HasSubslice (a ++ (b ++ c)) word
stands_wider word a b c (x, y, is) = (a ++ x, y ++ c, ap (λ t. a ++ (t ++ c)) is ∙ (simp append_assoc))

-- what a part is read as stands in it, and its name in that
abbrev Stands : (List ℕ → List ℕ) → Type 0
Stands read = (part : List ℕ) → HasSubslice part (read part)

name_stands : (name text value : List ℕ) → AreHalves 61 text (name, value) → HasSubslice text name
name_stands name text value (lacks, inl whole) = ([], 61 ∷ value, whole)
name_stands name text value (lacks, inr (whole, none)) = ([], [], whole ∙ sym (append-nil name))

-- a part in which the name doesn't stand has another one
passed : (read : List ℕ → List ℕ) → Stands read → (name part : List ℕ) (parts : List (List ℕ)) → (HasSubslice part name → ⊥) → named name (read part ∷ parts) ≡ named name parts
passed read stands name part parts lacks = by_test (bytes_eq (halves 61 (read part)).0 name) refl
  where
    by_test : (t : Bool) → bytes_eq (halves 61 (read part)).0 name ≡ t → named name (read part ∷ parts) ≡ named name parts
    by_test true is =
        let around = stands part in
        let inside = stands_wider name around.0 (read part) around.1 (name_stands name (read part) (halves 61 (read part)).1 (has_name name (read part) is)) in
        absurd (lacks (subst (λ t. HasSubslice t name) (sym around.2) inside))
    by_test false is = named_elsewhere name (read part) parts is

trimmed_stands : Stands trimmed
trimmed_stands part = let is = (trims_texts part (trimmed part)).0 refl in (is.left, is.right, is.whole)

whole_stands : Stands (λ part. part)
whole_stands part = ([], [], sym (append-nil part))

-- the cookie of a name, and the query's value
module _ (name : List ℕ) where
  pub cookie_passed : (text rest : List ℕ) → BeginsPart 59 (λ front. ¬ HasSubslice front name) text rest → named name (map trimmed (parts_between 59 text)) ≡ named name (map trimmed (parts_between 59 rest))
  cookie_passed text rest begins =
      front_passed (λ t. HasSubslice t name) (stands_wider name) (λ parts. named name (map trimmed parts)) (λ part parts lacks. passed trimmed trimmed_stands name part (map trimmed parts) lacks) 59 text rest begins

  pub no_cookie : (text : List ℕ) → (HasSubslice text name → ⊥) → named name (map trimmed (parts_between 59 text)) ≡ []
  no_cookie text lacks =
      all_passed (λ t. HasSubslice t name) (stands_wider name) (λ parts. named name (map trimmed parts)) (λ part parts none. passed trimmed trimmed_stands name part (map trimmed parts) none) 59 text lacks ∙ named_nowhere name

  pub query_passed : (text rest : List ℕ) → BeginsPart 38 (λ front. ¬ HasSubslice front name) text rest → named name (parts_between 38 text) ≡ named name (parts_between 38 rest)
  query_passed text rest begins =
      front_passed (λ t. HasSubslice t name) (stands_wider name) (named name) (passed (λ part. part) whole_stands name) 38 text rest begins

  pub no_query : (text : List ℕ) → (HasSubslice text name → ⊥) → named name (parts_between 38 text) ≡ []
  no_query text lacks =
      all_passed (λ t. HasSubslice t name) (stands_wider name) (named name) (passed (λ part. part) whole_stands name) 38 text lacks ∙ named_nowhere name
