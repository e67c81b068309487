-- Options in turn, and what is said within the limits of a row.
use Rattle.std.proofs.Common.{◌≡◌, ◌≤◌, ◌<◌, ◌+◌, ℕ, zero, suc, Bool, true, false, cond, ◌&&◌, nat_le, List, [], ◌∷◌, ◌++◌, length, take, map, fold, IfSome, IsSome, Option, Some, None, is_none, option_map, option_and_then, slice_get, slice_index_or, unwrap_or, refl, ap, arith}
use Rattle.std.proofs.lemmas.Bool.{leb-true, le-leb}
use Rattle.clap.specs.Words.{Row, Text, first_of}
use Rattle.edge_types.specs.Decimal.{decimal_of}
use Rattle.edge_types.proofs.DecimalLemmas.{decimal_sound}
use Rattle.edge_setup.specs.Numbers.{Numeric, all_fit, all_said, at_least, fits, or_default, row_of, said_by, said_of}
use Rattle.edge_setup.specs.declared.number.Number.{Number}

-- ---- the options in turn

fold_suc : {A B : Type 0} (f : B → A → B) (a : B) (xs : List A) (i : ℕ) (d : A) → i < length xs → fold f a (take (suc i) xs) ≡ f (fold f a (take i xs)) (slice_index_or xs i d)
fold_suc f a [] i d few = absurd (omega (arith, few))
fold_suc f a (x ∷ xs) zero d few = refl
fold_suc f a (x ∷ xs) (suc i) d few = fold_suc f (f a x) xs i d (omega (arith, few))

pub fold_next : {A B : Type 0} (f : B → A → B) (a : B) (xs : List A) (i : ℕ) (d : A) → i < length xs → fold f a (take (i + 1) xs) ≡ f (fold f a (take i xs)) (slice_index_or xs i d)
fold_next f a xs i d few =
    let next : i + 1 ≡ suc i = omega arith in
    rw next (fold_suc f a xs i d few)

map_suc : {A B : Type 0} (f : A → B) (xs : List A) (i : ℕ) (d : A) → i < length xs → map f (take (suc i) xs) ≡ map f (take i xs) ++ f (slice_index_or xs i d) ∷ []
map_suc f [] i d few = absurd (omega (arith, few))
map_suc f (x ∷ xs) zero d few = refl
map_suc f (x ∷ xs) (suc i) d few = ap (λ rest. f x ∷ rest) (map_suc f xs i d (omega (arith, few)))

pub map_next : {A B : Type 0} (f : A → B) (xs : List A) (i : ℕ) (d : A) → i < length xs → map f (take (i + 1) xs) ≡ map f (take i xs) ++ f (slice_index_or xs i d) ∷ []
map_next f xs i d few =
    let next : i + 1 ≡ suc i = omega arith in
    rw next (map_suc f xs i d few)

pub map_more : {A B : Type 0} (f : A → B) (xs : List A) (x : A) → map f (xs ++ x ∷ []) ≡ map f xs ++ f x ∷ []
map_more f [] x = refl
map_more f (y ∷ ys) x = ap (λ rest. f y ∷ rest) (map_more f ys x)

-- ---- what is said within the limits of a row

within_by : (row : Numeric) (n : ℕ) (value : Option ℕ) (b : Bool) → n ≤ row.most → nat_le row.least n ≡ b → option_map Some (cond b (Some n) None) ≡ Some value → fits row value ≡ true
within_by row n value true few least e =
    let is : value ≡ Some n = cc in
    rw (is, least, le-leb n row.most few) refl
within_by row n value false few least e = absurd (cc)

of_word : (row : Numeric) (word : Text) (value : Option ℕ) (number : Option ℕ) → decimal_of word row.most ≡ number → option_map Some (at_least row.least number) ≡ Some value → fits row value ≡ true
of_word row word value None is e = absurd (cc)
of_word row word value (Some n) is e = within_by row n value (nat_le row.least n) (decimal_sound word row.most n is).1 refl e

fits_by : (row : Numeric) (default word value : _) → row.default ≡ default → said_by row (or_default default word) ≡ Some value → fits row value ≡ true
fits_by row None None value is e =
    let none : value ≡ None = cc in
    rw (none, is) refl
fits_by row (Some d) None value is e = of_word row d value _ refl e
fits_by row default (Some w) value is e = of_word row w value _ refl e

pub all_fit_said : (rows : List Row) (options : List Number) (values : List (Option ℕ)) → all_said rows options ≡ map Some values → all_fit options values ≡ true
all_fit_said rows [] [] e = refl
all_fit_said rows [] (v ∷ vs) e = absurd (cc)
all_fit_said rows (o ∷ os) [] e = absurd (cc)
all_fit_said rows (o ∷ os) (v ∷ vs) e =
    let first : said_of (row_of o) rows ≡ Some v = cc in
    let rest : all_said rows os ≡ map Some vs = cc in
    rw (fits_by (row_of o) (row_of o).default (first_of (row_of o).name rows) v refl first) (all_fit_said rows os vs rest)

-- ---- what was said

and_left : (a b : Bool) → (a && b) ≡ true → a ≡ true
and_left true b e = refl
and_left false b e = absurd (cc)

and_right : (a b : Bool) → (a && b) ≡ true → b ≡ true
and_right true b e = e
and_right false b e = absurd (cc)

pub fits_at : (options : List Number) (values : List (Option ℕ)) (i : ℕ) (o : Number) → all_fit options values ≡ true → slice_get options i ≡ Some o → fits (row_of o) (option_and_then (λ value. value) (slice_get values i)) ≡ true
fits_at [] values i o fit there = absurd (cc)
fits_at (x ∷ xs) [] i o fit there = absurd (cc)
fits_at (x ∷ xs) (v ∷ vs) zero o fit there =
    let is : x ≡ o = cc in
    rw (← is) (and_left (fits (row_of x) v) (all_fit xs vs) fit)
fits_at (x ∷ xs) (v ∷ vs) (suc i) o fit there = fits_at xs vs i o (and_right (fits (row_of x) v) (all_fit xs vs) fit) there

-- the number of a row with a default is within its limits
pub of_value : (row : Numeric) (value : Option ℕ) → IsSome row.default → fits row value ≡ true → (row.least ≤ unwrap_or value 0) × (unwrap_or value 0 ≤ row.most)
of_value row None some fit = absurd (by row.default some fit)
  where
    by : (default : Option Text) → IsSome default → is_none default ≡ true → ⊥
    by None some none = cc
    by (Some word) some none = cc
of_value row (Some n) some fit = (leb-true _ _ (and_left (nat_le row.least n) (nat_le n row.most) fit), leb-true _ _ (and_right (nat_le row.least n) (nat_le n row.most) fit))

pub if_few : (row : Numeric) (value : Option ℕ) → fits row value ≡ true → IfSome value (λ n. n ≤ row.most)
if_few row None fit = tt
if_few row (Some n) fit = leb-true _ _ (and_right (nat_le row.least n) (nat_le n row.most) fit)
