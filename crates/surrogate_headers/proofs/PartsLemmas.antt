-- The parts of a value, byte by byte.
use Rattle.std.proofs.Common.{◌≡◌, ℕ, ◌+◌, ◌<◌, ◌≤◌, Bool, true, false, not, cond, eqb, List, [], ◌∷◌, ◌++◌, length, get_or, take, drop, refl, sym, ap, ◌∙◌, append_assoc, add-one}
use Rattle.std.specs.List.{onto_first}
use Rattle.std.proofs.lemmas.List.{append-nil, take_more, take_all, drop_all}
use Rattle.std.proofs.Math.Seq.{drop-cons}
use Rattle.surrogate_headers.specs.Cut.{parts_from}

-- the first part with these bytes before it
abbrev pub onto : List ℕ → List (List ℕ) → List (List ℕ)
onto xs [] = xs ∷ []
onto xs (part ∷ parts) = (xs ++ part) ∷ parts

onto-onto_first : (xs : List ℕ) (x : ℕ) (parts : List (List ℕ)) → onto xs (onto_first x parts) ≡ onto (xs ++ x ∷ []) parts
onto-onto_first xs x [] = refl
onto-onto_first xs x (part ∷ parts) = ap (λ (p : List ℕ). p ∷ parts) (sym (append_assoc xs (x ∷ []) part))

onto_nothing_first : (x : ℕ) (parts : List (List ℕ)) → onto [] (onto_first x parts) ≡ onto_first x parts
onto_nothing_first x [] = refl
onto_nothing_first x (part ∷ parts) = refl

-- whether the next byte stands inside quotes
abbrev pub turned : Bool → ℕ → Bool
turned quoted b = cond (eqb b 34) (not quoted) quoted

cut_off : (b : ℕ) (bs : List ℕ) (t : Bool) → t ≡ false → cond t ([] ∷ parts_from false bs) (onto_first b (parts_from (eqb b 34) bs)) ≡ onto_first b (parts_from (eqb b 34) bs)
cut_off b bs true e = absurd (cc)
cut_off b bs false e = refl

as_turned : (t : Bool) → (not t ≡ cond t false true) × (t ≡ cond t true false)
as_turned true = (refl, refl)
as_turned false = (refl, refl)

pub parts_from-cons : (quoted : Bool) (b : ℕ) (bs : List ℕ) → (quoted ≡ false → eqb b 44 ≡ false) → parts_from quoted (b ∷ bs) ≡ onto_first b (parts_from (turned quoted b) bs)
parts_from-cons true b bs h = ap (λ (t : Bool). onto_first b (parts_from t bs)) (as_turned (eqb b 34)).0
parts_from-cons false b bs h = cut_off b bs (eqb b 44) (h refl) ∙ ap (λ (t : Bool). onto_first b (parts_from t bs)) (as_turned (eqb b 34)).1

cut_at_comma : (b : ℕ) (bs : List ℕ) (t : Bool) → t ≡ true → cond t ([] ∷ parts_from false bs) (onto_first b (parts_from (eqb b 34) bs)) ≡ [] ∷ parts_from false bs
cut_at_comma b bs true e = refl
cut_at_comma b bs false e = absurd (cc)

at_place : (value : List ℕ) (i : ℕ) → i < length value → drop i value ≡ get_or value i 0 ∷ drop (i + 1) value
at_place value i inside = rw (drop-cons value i 0, add-one) refl

-- one more byte of the part
pub onto_more : (value : List ℕ) (i : ℕ) (quoted : Bool) → i < length value → (quoted ≡ false → eqb (get_or value i 0) 44 ≡ false)
    → onto (take i value) (parts_from quoted (drop i value)) ≡ onto (take (i + 1) value) (parts_from (turned quoted (get_or value i 0)) (drop (i + 1) value))
onto_more value i quoted inside no_cut =
    let b = get_or value i 0 in
    let rest = parts_from (turned quoted b) (drop (i + 1) value) in
    let step : parts_from quoted (drop i value) ≡ onto_first b rest = rw (at_place value i inside) (parts_from-cons quoted b (drop (i + 1) value) no_cut) in
    let longer : take i value ++ b ∷ [] ≡ take (i + 1) value = sym (take_more value i 0 inside) in
    ap (onto (take i value)) step ∙ onto-onto_first (take i value) b rest ∙ ap (λ (xs : List ℕ). onto xs rest) longer

-- the part ends at a comma
pub onto_cut : (value : List ℕ) (i : ℕ) → i < length value → eqb (get_or value i 0) 44 ≡ true
    → onto (take i value) (parts_from false (drop i value)) ≡ take i value ∷ parts_from false (drop (i + 1) value)
onto_cut value i inside comma =
    let b = get_or value i 0 in
    let step : parts_from false (drop i value) ≡ [] ∷ parts_from false (drop (i + 1) value) = rw (at_place value i inside) (cut_at_comma b (drop (i + 1) value) (eqb b 44) comma) in
    ap (onto (take i value)) step ∙ ap (λ (p : List ℕ). p ∷ parts_from false (drop (i + 1) value)) (append-nil (take i value))

-- or at the end of the value
pub onto_end : (value : List ℕ) (i : ℕ) (quoted : Bool) → length value ≤ i → onto (take i value) (parts_from quoted (drop i value)) ≡ value ∷ []
onto_end value i quoted past =
    rw (drop_all i value past, take_all i value past) (ap (λ (p : List ℕ). p ∷ []) (append-nil value))

-- the parts of a value with nothing before them
pub onto_none : (quoted : Bool) (value : List ℕ) → onto [] (parts_from quoted value) ≡ parts_from quoted value
onto_none quoted [] = refl
onto_none true (b ∷ bs) = onto_nothing_first b (parts_from (not (eqb b 34)) bs)
onto_none false (b ∷ bs) = by_test (eqb b 44)
  where
    by_test : (t : Bool) → onto [] (cond t ([] ∷ parts_from false bs) (onto_first b (parts_from (eqb b 34) bs))) ≡ cond t ([] ∷ parts_from false bs) (onto_first b (parts_from (eqb b 34) bs))
    by_test true = refl
    by_test false = onto_nothing_first b (parts_from (eqb b 34) bs)
