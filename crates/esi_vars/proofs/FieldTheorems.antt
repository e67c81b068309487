-- A field's parts, their names and values are those that stand in it.
use Rattle.std.proofs.Common.{◌≡◌, ℕ, zero, suc, ◌+◌, ◌<◌, ◌≤◌, ◌==◌, Bool, true, false, List, [], ◌∷◌, ◌++◌, length, take, drop, get_or, nat_lt, bytes_eq, refl, sym, ◌∙◌, ap, subst, inl, inr, append_assoc, arith}
use Rattle.std.specs.List.{All, Contains, join_with_byte, position_or_len, slice_split, onto_first}
use Rattle.std.proofs.lemmas.Bool.{eqb-true, eq-eqb, lt-ltb, le-ltb}
use Rattle.std.proofs.lemmas.List.{take_at, drop_at, length-append, length-take, get_or-take, get_or_default, get_or_at, get_or_append_left, length_push}
use Rattle.std.proofs.lemmas.List.Elements.{All-nil, All-cons, All-head, All-tail}
use Rattle.std.proofs.lemmas.List.Splits.{slice_split_none, slice_split_at, length-slice_split, join_with_byte-slice_split}
use Rattle.std.proofs.lemmas.List.Sums.{split_at_first, fails_before_first, passes_at_first, position_or_len_is}
use Rattle.std.proofs.lemmas.Slice.Eq.{bytes_eq-Decides}
use Rattle.edge_types.specs.Halves.{around}
use Rattle.esi_vars.specs.Field.{parts_between, halves, named}
use Rattle.esi_vars.specs.Finds.{AreParts, AreHalves, HasName, IsNamed}
use Rattle.esi_vars.specs.Laws.{CutsFields, CutsOnce, LooksUp}

-- a list that doesn't contain a byte has another one at each place
pub other_bytes : (c : ℕ) (bs : List ℕ) → (Contains bs c → ⊥) → All (λ b. (b == c) ≡ false) bs
other_bytes c bs lacks k d h = by_test (get_or bs k d == c) refl
  where
    by_test : (t : Bool) → (get_or bs k d == c) ≡ t → (get_or bs k d == c) ≡ false
    by_test true is = absurd (lacks (k, h, get_or_default bs k c d h ∙ eqb-true (get_or bs k d) c is))
    by_test false is = is

lacks_byte : (c : ℕ) (bs : List ℕ) → All (λ b. (b == c) ≡ false) bs → Contains bs c → ⊥
lacks_byte c bs all has =
    let clash : true ≡ false = sym (eq-eqb (get_or bs has.0 c) c has.2) ∙ all has.0 c has.1 in absurd (cc)

-- parts that lack the byte at which they are joined are those of the joined text
parts_again : (c : ℕ) (part : List ℕ) (parts : List (List ℕ)) → All (λ p. Contains p c → ⊥) (part ∷ parts) → slice_split (λ b. b == c) (join_with_byte c (part ∷ parts)) ≡ part ∷ parts
parts_again c part [] lack = slice_split_none (λ b. b == c) part (other_bytes c part (All-head (λ p. Contains p c → ⊥) part [] lack))
parts_again c part (next ∷ parts) lack =
    slice_split_at (λ b. b == c) part c (join_with_byte c (next ∷ parts)) (other_bytes c part (All-head (λ p. Contains p c → ⊥) part (next ∷ parts) lack)) (eq-eqb c c refl)
    ∙ ap (λ ps. part ∷ ps) (parts_again c next parts (All-tail (λ p. Contains p c → ⊥) part (next ∷ parts) lack))

cut_again : (c : ℕ) (field : List ℕ) (parts : List (List ℕ)) → AreParts c field parts → parts_between c field ≡ parts
cut_again c field [] are = absurd (omega (arith, are.some))
cut_again c field (part ∷ parts) are = ap (slice_split (λ b. b == c)) (sym are.whole) ∙ parts_again c part parts are.uncut

-- a byte more
lacks_more : (c b : ℕ) (bs : List ℕ) → (b == c) ≡ false → (Contains bs c → ⊥) → Contains (b ∷ bs) c → ⊥
lacks_more c b bs other lacks (zero, h, is) = let clash : true ≡ false = sym (eq-eqb b c is) ∙ other in absurd (cc)
lacks_more c b bs other lacks (suc k, h, is) = lacks (k, omega arith, is)

lack_more : (c b : ℕ) (parts : List (List ℕ)) → (b == c) ≡ false → All (λ p. Contains p c → ⊥) parts → All (λ p. Contains p c → ⊥) (onto_first b parts)
lack_more c b [] other lack = All-cons (λ p. Contains p c → ⊥) (b ∷ []) [] (lacks_more c b [] other (λ has. omega (arith, has.1))) (All-nil (λ p. Contains p c → ⊥))
lack_more c b (part ∷ parts) other lack =
    All-cons (λ p. Contains p c → ⊥) (b ∷ part) parts (lacks_more c b part other (All-head (λ p. Contains p c → ⊥) part parts lack)) (All-tail (λ p. Contains p c → ⊥) part parts lack)

-- no part has the byte at which the field is cut
parts_lack : (c : ℕ) (field : List ℕ) → All (λ p. Contains p c → ⊥) (slice_split (λ b. b == c) field)
parts_lack c [] = All-cons (λ p. Contains p c → ⊥) [] [] (λ has. omega (arith, has.1)) (All-nil (λ p. Contains p c → ⊥))
parts_lack c (b ∷ bs) = by_test (b == c) refl (parts_lack c bs)
  where
    by_test : (t : Bool) → (b == c) ≡ t → All (λ p. Contains p c → ⊥) (slice_split (λ x. x == c) bs) → All (λ p. Contains p c → ⊥) (slice_split (λ x. x == c) (b ∷ bs))
    by_test true is later = rw is (All-cons (λ p. Contains p c → ⊥) [] (slice_split (λ x. x == c) bs) (λ has. omega (arith, has.1)) later)
    by_test false is later = rw is (lack_more c b (slice_split (λ x. x == c) bs) is later)

parts_are : (c : ℕ) (field : List ℕ) → AreParts c field (parts_between c field)
parts_are c field = record {
  some = omega (arith, length-slice_split (λ b. b == c) field);
  whole = join_with_byte-slice_split c field;
  uncut = parts_lack c field;
}

pub cuts_fields : CutsFields
cuts_fields c field parts = (λ is. subst (λ ps. AreParts c field ps) is (parts_are c field), cut_again c field parts)

-- the halves of a text, by whether it has the byte
halves_some : (c : ℕ) (text : List ℕ) → nat_lt (position_or_len (λ b. b == c) text) (length text) ≡ true
    → halves c text ≡ (take (position_or_len (λ b. b == c) text) text, drop (position_or_len (λ b. b == c) text + 1) text)
unfolding halves around
halves_some c text is = rw is refl

halves_none : (c : ℕ) (text : List ℕ) → nat_lt (position_or_len (λ b. b == c) text) (length text) ≡ false → halves c text ≡ (text, [])
unfolding halves around
halves_none c text is = rw is refl

pub are_halves : (c : ℕ) (text : List ℕ) → AreHalves c text (halves c text)
are_halves c text = by_test (nat_lt (position_or_len (λ b. b == c) text) (length text)) refl
  where
    by_test : (t : Bool) → nat_lt (position_or_len (λ b. b == c) text) (length text) ≡ t → AreHalves c text (halves c text)
    by_test true is =
        let n = position_or_len (λ (b : ℕ). b == c) text in
        let within : n < length text = grind (arith, is) in
        let other : All (λ b. (b == c) ≡ false) (take n text) = λ k d h. ap (λ b. b == c) (get_or-take n text k d (omega (arith, length-take n text))) ∙ fails_before_first (λ b. b == c) text k d (omega (arith, length-take n text)) in
        let at : get_or text n 0 ≡ c = eqb-true (get_or text n 0) c (passes_at_first (λ b. b == c) text 0 within) in
        let whole : text ≡ take n text ++ c ∷ drop (n + 1) text = split_at_first (λ b. b == c) text 0 within ∙ ap (λ b. take n text ++ b ∷ drop (n + 1) text) at in
        subst (λ x. AreHalves c text x) (sym (halves_some c text is)) (lacks_byte c (take n text) other, inl whole)
    by_test false is =
        let all : length text ≤ position_or_len (λ (b : ℕ). b == c) text = grind (arith, is) in
        let other : All (λ b. (b == c) ≡ false) text = λ k d h. fails_before_first (λ b. b == c) text k d (omega arith) in
        subst (λ x. AreHalves c text x) (sym (halves_none c text is)) (lacks_byte c text other, inr (refl, refl))

-- the first such byte stands behind a front without one
first_is : (c : ℕ) (front rest : List ℕ) → (Contains front c → ⊥) → position_or_len (λ b. b == c) (front ++ c ∷ rest) ≡ length front
first_is c front rest lacks =
    position_or_len_is (λ b. b == c) (front ++ c ∷ rest) (length front) 0 (omega (arith, length-append front (c ∷ rest)))
    (λ k h. ap (λ b. b == c) (get_or_append_left front (c ∷ rest) 0 k h) ∙ other_bytes c front lacks k 0 h)
    (λ h. ap (λ b. b == c) (get_or_at front c rest 0 (length front) refl) ∙ eq-eqb c c refl)

halves_again : (c : ℕ) (text : List ℕ) (both : List ℕ × List ℕ) → AreHalves c text both → halves c text ≡ both
halves_again c text (front, back) (lacks, inl whole) =
    let n = first_is c front back lacks in
    let within : nat_lt (position_or_len (λ (b : ℕ). b == c) (front ++ c ∷ back)) (length (front ++ c ∷ back)) ≡ true = lt-ltb _ _ (omega (arith, n, length-append front (c ∷ back))) in
    let later : drop (length front + 1) (front ++ c ∷ back) ≡ back = ap (drop (length front + 1)) (sym (append_assoc front (c ∷ []) back)) ∙ drop_at (front ++ c ∷ []) back (length front + 1) (length_push front c) in
    rw whole (halves_some c (front ++ c ∷ back) within ∙ rw (n, take_at front (c ∷ back) (length front) refl, later) refl)
halves_again c text (front, back) (lacks, inr (whole, none)) =
    let all : length front ≤ position_or_len (λ (b : ℕ). b == c) front = omega (arith, position_or_len_is (λ (b : ℕ). b == c) front (length front) 0 (omega arith) (λ k h. other_bytes c front lacks k 0 h) (λ h. absurd (omega arith))) in
    rw (whole, none) (halves_none c front (le-ltb _ _ all))

pub cuts_once : CutsOnce
cuts_once c text both = (λ is. subst (λ x. AreHalves c text x) is (are_halves c text), halves_again c text both)

-- whether a part has the name
named_here : (name part : List ℕ) (parts : List (List ℕ)) → bytes_eq (halves 61 part).0 name ≡ true → named name (part ∷ parts) ≡ (halves 61 part).1
unfolding named
named_here name part parts is = rw is refl

pub named_elsewhere : (name part : List ℕ) (parts : List (List ℕ)) → bytes_eq (halves 61 part).0 name ≡ false → named name (part ∷ parts) ≡ named name parts
unfolding named
named_elsewhere name part parts is = rw is refl

pub named_nowhere : (name : List ℕ) → named name [] ≡ []
unfolding named
named_nowhere name = refl

pub has_name : (name part : List ℕ) → bytes_eq (halves 61 part).0 name ≡ true → AreHalves 61 part (name, (halves 61 part).1)
has_name name part is =
    let same : (halves 61 part).0 ≡ name = (bytes_eq-Decides (halves 61 part).0 name).0 is in
    subst (λ n. AreHalves 61 part (n, (halves 61 part).1)) same (are_halves 61 part)

named_is : (name part value : List ℕ) → AreHalves 61 part (name, value) → (bytes_eq (halves 61 part).0 name ≡ true) × ((halves 61 part).1 ≡ value)
named_is name part value are =
    let cut = halves_again 61 part (name, value) are in
    ((bytes_eq-Decides (halves 61 part).0 name).1 (ap (λ x. x.0) cut), ap (λ x. x.1) cut)

other_name : (name part : List ℕ) → bytes_eq (halves 61 part).0 name ≡ false → HasName name part → ⊥
other_name name part is has = let clash : true ≡ false = sym (named_is name part has.0 has.1).0 ∙ is in absurd (cc)

not_named : (name part : List ℕ) → (HasName name part → ⊥) → bytes_eq (halves 61 part).0 name ≡ false
not_named name part lacks = by_test (bytes_eq (halves 61 part).0 name) refl
  where
    by_test : (t : Bool) → bytes_eq (halves 61 part).0 name ≡ t → bytes_eq (halves 61 part).0 name ≡ false
    by_test true is = absurd (lacks ((halves 61 part).1, has_name name part is))
    by_test false is = is

-- what the look-up gives is the value of the first part of the name
is_named : (name : List ℕ) (parts : List (List ℕ)) → IsNamed name parts (named name parts)
is_named name [] = inr (All-nil (λ p. HasName name p → ⊥), named_nowhere name)
is_named name (part ∷ parts) = by_test (bytes_eq (halves 61 part).0 name) refl (is_named name parts)
  where
    by_test : (t : Bool) → bytes_eq (halves 61 part).0 name ≡ t → IsNamed name parts (named name parts) → IsNamed name (part ∷ parts) (named name (part ∷ parts))
    by_test true is later =
        subst (λ v. IsNamed name (part ∷ parts) v) (sym (named_here name part parts is))
        (inl (record { before = []; part = part; after = parts; whole = refl; others = All-nil (λ p. HasName name p → ⊥); is = has_name name part is }))
    by_test false is (inl found) =
        subst (λ v. IsNamed name (part ∷ parts) v) (sym (named_elsewhere name part parts is))
        (inl (record { before = part ∷ found.before; part = found.part; after = found.after; whole = ap (λ ps. part ∷ ps) found.whole; others = All-cons (λ p. HasName name p → ⊥) part found.before (other_name name part is) found.others; is = found.is }))
    by_test false is (inr (none, nothing)) =
        subst (λ v. IsNamed name (part ∷ parts) v) (sym (named_elsewhere name part parts is))
        (inr (All-cons (λ p. HasName name p → ⊥) part parts (other_name name part is) none, nothing))

first_named : (name : List ℕ) (before : List (List ℕ)) (part value : List ℕ) (after : List (List ℕ)) → All (λ p. HasName name p → ⊥) before → AreHalves 61 part (name, value) → named name (before ++ part ∷ after) ≡ value
first_named name [] part value after others is =
    let here = named_is name part value is in named_here name part after here.0 ∙ here.1
first_named name (other ∷ before) part value after others is =
    named_elsewhere name other (before ++ part ∷ after) (not_named name other (All-head (λ p. HasName name p → ⊥) other before others))
    ∙ first_named name before part value after (All-tail (λ p. HasName name p → ⊥) other before others) is

none_named : (name : List ℕ) (parts : List (List ℕ)) → All (λ p. HasName name p → ⊥) parts → named name parts ≡ []
none_named name [] none = named_nowhere name
none_named name (part ∷ parts) none =
    named_elsewhere name part parts (not_named name part (All-head (λ p. HasName name p → ⊥) part parts none))
    ∙ none_named name parts (All-tail (λ p. HasName name p → ⊥) part parts none)

named_again : (name value : List ℕ) (parts : List (List ℕ)) → IsNamed name parts value → named name parts ≡ value
named_again name value parts (inl found) = ap (named name) found.whole ∙ first_named name found.before found.part value found.after found.others found.is
named_again name value parts (inr (none, nothing)) = none_named name parts none ∙ sym nothing

pub looks_up : LooksUp
looks_up name value parts = (λ is. subst (λ v. IsNamed name parts v) is (is_named name parts), named_again name value parts)
