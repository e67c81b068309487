-- The parts of a value are its only cut.
use Rattle.std.proofs.Common.{◌≡◌, ℕ, zero, suc, ◌<◌, Bool, true, false, not, cond, eqb, List, [], ◌∷◌, ◌++◌, length, get_or, take, refl, sym, ap, ◌∙◌, arith}
use Rattle.std.specs.List.{onto_first}
use Rattle.std.proofs.lemmas.Bool.{eqb-true, false_from_ne_true, eq-eqb}
use Rattle.surrogate_headers.specs.Cut.{parts_from, parts_of}
use Rattle.surrogate_headers.specs.Parting.{is_open, IsCut}
use Rattle.surrogate_headers.proofs.PartsLemmas.{turned, parts_from-cons}

-- whether a quote is open behind a text that begins inside quotes or outside
abbrev past : Bool → Bool → Bool
past quoted t = cond quoted (not t) t

past-turned : (quoted : Bool) (b : ℕ) (t : Bool) → past quoted (cond (eqb b 34) (not t) t) ≡ past (turned quoted b) t
past-turned quoted b t = by_test quoted (eqb b 34) t
  where
    by_test : (q s t : Bool) → past q (cond s (not t) t) ≡ past (cond s (not q) q) t
    by_test true true true = refl
    by_test true true false = refl
    by_test true false t = refl
    by_test false true t = refl
    by_test false false t = refl

abbrev WholeFrom : Bool → List ℕ → Type 0
WholeFrom quoted part = (i : ℕ) → i < length part → get_or part i 0 ≡ 44 → past quoted (is_open (take i part)) ≡ true

abbrev CutFrom : Bool → List (List ℕ) → List ℕ → Type 0
CutFrom quoted [] value = ⊥
CutFrom quoted (part ∷ []) value = (value ≡ part) × WholeFrom quoted part
CutFrom quoted (part ∷ next ∷ parts) value =
    (rest : List ℕ) × (value ≡ part ++ 44 ∷ rest) × WholeFrom quoted part × (past quoted (is_open part) ≡ false) × IsCut (next ∷ parts) rest

past-none : (quoted : Bool) → quoted ≡ true → past quoted false ≡ true
past-none true e = refl
past-none false e = absurd (cc)

from_past : (quoted : Bool) → past quoted false ≡ true → quoted ≡ true
from_past true e = refl
from_past false e = absurd (cc)

outside : (quoted : Bool) → past quoted false ≡ false → quoted ≡ false
outside true e = absurd (cc)
outside false e = refl

whole-cons : (quoted : Bool) (b : ℕ) (bs : List ℕ) → (b ≡ 44 → quoted ≡ true) → WholeFrom (turned quoted b) bs → WholeFrom quoted (b ∷ bs)
whole-cons quoted b bs inside whole zero h comma = past-none quoted (inside comma)
whole-cons quoted b bs inside whole (suc i) h comma = past-turned quoted b (is_open (take i bs)) ∙ whole i (omega arith) comma

whole-rest : (quoted : Bool) (b : ℕ) (bs : List ℕ) → WholeFrom quoted (b ∷ bs) → WholeFrom (turned quoted b) bs
whole-rest quoted b bs whole i h comma = sym (past-turned quoted b (is_open (take i bs))) ∙ whole (suc i) (omega arith) comma

-- one more byte before the first part
grown : (quoted : Bool) (b : ℕ) (bs : List ℕ) (parts : List (List ℕ)) → (b ≡ 44 → quoted ≡ true) → CutFrom (turned quoted b) parts bs → CutFrom quoted (onto_first b parts) (b ∷ bs)
grown quoted b bs [] inside cut = absurd cut
grown quoted b bs (part ∷ []) inside (is, whole) = (ap (λ (xs : List ℕ). b ∷ xs) is, whole-cons quoted b part inside whole)
grown quoted b bs (part ∷ next ∷ parts) inside (rest, is, whole, closed, others) =
    (rest, ap (λ (xs : List ℕ). b ∷ xs) is, whole-cons quoted b part inside whole, past-turned quoted b (is_open part) ∙ closed, others)

-- a part with nothing in it before a comma
begun : (bs : List ℕ) (parts : List (List ℕ)) → CutFrom false parts bs → CutFrom false ([] ∷ parts) (44 ∷ bs)
begun bs [] cut = absurd cut
begun bs (part ∷ []) cut = (bs, refl, λ i h comma. absurd (omega arith), refl, cut)
begun bs (part ∷ next ∷ parts) cut = (bs, refl, λ i h comma. absurd (omega arith), refl, cut)

cut_from : (value : List ℕ) (quoted : Bool) → CutFrom quoted (parts_from quoted value) value
cut_from [] quoted = (refl, λ i h comma. absurd (omega arith))
cut_from (b ∷ bs) quoted = by_comma quoted (eqb b 44) refl (cut_from bs (turned quoted b)) (cut_from bs false)
  where
    by_comma : (q t : Bool) → eqb b 44 ≡ t → CutFrom (turned q b) (parts_from (turned q b) bs) bs → CutFrom false (parts_from false bs) bs → CutFrom q (parts_from q (b ∷ bs)) (b ∷ bs)
    by_comma true t at more next =
        rw (parts_from-cons true b bs (λ e. absurd (cc))) (grown true b bs (parts_from (turned true b) bs) (λ _. refl) more)
    by_comma false true at more next =
        rw (at, eqb-true b 44 at) (begun bs (parts_from false bs) next)
    by_comma false false at more next =
        rw (parts_from-cons false b bs (λ _. at)) (grown false b bs (parts_from (turned false b) bs) (λ e. absurd (no_comma e)) more)
      where
        no_comma : b ≡ 44 → ⊥
        no_comma e = let yes = eq-eqb b 44 e in cc

-- a part that can't be cut is all of its parts
inside_at : (quoted : Bool) (b : ℕ) (bs : List ℕ) → WholeFrom quoted (b ∷ bs) → quoted ≡ false → eqb b 44 ≡ false
inside_at quoted b bs whole out = false_from_ne_true (eqb b 44) (λ comma.
    let within : quoted ≡ true = from_past quoted (whole 0 (omega arith) (eqb-true b 44 comma)) in
    let no : true ≡ false = sym within ∙ out in cc)

parts-whole : (part : List ℕ) (quoted : Bool) → WholeFrom quoted part → parts_from quoted part ≡ part ∷ []
parts-whole [] quoted whole = refl
parts-whole (b ∷ bs) quoted whole =
    parts_from-cons quoted b bs (inside_at quoted b bs whole) ∙ ap (onto_first b) (parts-whole bs (turned quoted b) (whole-rest quoted b bs whole))

parts-front : (part rest : List ℕ) (quoted : Bool) → WholeFrom quoted part → past quoted (is_open part) ≡ false → parts_from quoted (part ++ 44 ∷ rest) ≡ part ∷ parts_from false rest
parts-front [] rest quoted whole closed = ap (λ q. parts_from q (44 ∷ rest)) (outside quoted closed)
parts-front (b ∷ bs) rest quoted whole closed =
    parts_from-cons quoted b (bs ++ 44 ∷ rest) (inside_at quoted b bs whole)
    ∙ ap (onto_first b) (parts-front bs rest (turned quoted b) (whole-rest quoted b bs whole) (sym (past-turned quoted b (is_open bs)) ∙ closed))

pub is_cut : (value : List ℕ) → IsCut (parts_of value) value
unfolding parts_of
is_cut value = by_parts (parts_from false value) (cut_from value false)
  where
    by_parts : (parts : List (List ℕ)) → CutFrom false parts value → IsCut parts value
    by_parts [] cut = cut
    by_parts (part ∷ []) cut = cut
    by_parts (part ∷ next ∷ parts) cut = cut

pub only_cut : (value : List ℕ) (parts : List (List ℕ)) → IsCut parts value → parts ≡ parts_of value
unfolding parts_of
only_cut value [] cut = absurd cut
only_cut value (part ∷ []) (is, whole) = sym (ap (parts_from false) is ∙ parts-whole part false whole)
only_cut value (part ∷ next ∷ parts) (rest, is, whole, closed, others) =
    sym (ap (parts_from false) is ∙ parts-front part rest false whole closed ∙ ap (λ (ps : List (List ℕ)). part ∷ ps) (sym (only_cut rest (next ∷ parts) others)))
