-- Names that are seen from the last to the first.
use Rattle.std.proofs.Common.{◌≡◌, ℕ, Bool, true, false, not, cond, ◌&&◌, ◌||◌, List, [], ◌∷◌, ◌++◌, length, refl, sym, ◌∙◌, ap, append_assoc, bytes_eq}
use Rattle.std.proofs.lemmas.List.{append-nil, map-append, nil_from_length}
use Rattle.std.proofs.lemmas.Map.Text.{is_eq-slice_cmp}
use Rattle.std.specs.List.{list_any}
use Rattle.std.specs.Borrow.{Bor}
use Rattle.std.specs.Ordering.{is_eq, nat_cmp}
use Rattle.std.specs.Cmp.Lexicographic.{slice_cmp}
use Rattle.esi_scanner.specs.declared.attribute.Attribute.{Attribute}
use Rattle.esi_scanner.specs.Names.{attribute_text}
use Rattle.esi_scanner.specs.Tag.{all_distinct, names_of}
use Rattle.esi_scanner.proofs.ByteLemmas.{bytes_eq-flip}

-- the query is among the keys
abbrev pub has_key : List (Bor (List ℕ)) → Bor (List ℕ) → Bool
has_key keys q = list_any (λ (k : Bor (List ℕ)). is_eq (slice_cmp nat_cmp q.now k.now)) keys

-- the keys are the names
abbrev pub HasNames : List (Bor (List ℕ)) → List (List ℕ) → Type 0
HasNames keys names = (q : Bor (List ℕ)) → has_key keys q ≡ list_any (bytes_eq q.now) names

-- the keys are the names of the attributes behind the rest, and no two of those are equal
abbrev pub IsSeen : List Attribute → List Attribute → List (Bor (List ℕ)) → Type 0
IsSeen attributes rest keys =
    (later : List Attribute) × (attributes ≡ rest ++ later) × (all_distinct (names_of later) ≡ true) × HasNames keys (names_of later)

pub seen-start : (attributes : List Attribute) → IsSeen attributes attributes []
seen-start attributes = ([], sym (append-nil attributes), refl, λ q. refl)

and_false : (b : Bool) → (b && false) ≡ false
and_false true = refl
and_false false = refl

-- what is repeated at the end is repeated
distinct-append : (front names : List (List ℕ)) → all_distinct names ≡ false → all_distinct (front ++ names) ≡ false
distinct-append [] names e = e
distinct-append (x ∷ front) names e = rw (distinct-append front names e) (and_false _)

regrouped : (attributes before rest later : List Attribute) (a : Attribute) → attributes ≡ rest ++ later → rest ≡ before ++ a ∷ [] → attributes ≡ before ++ a ∷ later
regrouped attributes before rest later a is cut = is ∙ ap (λ (xs : List Attribute). xs ++ later) cut ∙ append_assoc before (a ∷ []) later

pub seen-repeats : (attributes before rest : List Attribute) (keys : List (Bor (List ℕ))) (a : Attribute) (key : Bor (List ℕ)) → rest ≡ before ++ a ∷ [] → key.now ≡ attribute_text a.name → has_key keys key ≡ true → IsSeen attributes rest keys → all_distinct (names_of attributes) ≡ false
seen-repeats attributes before rest keys a key cut is has (later, all, distinct, same) =
    let again : list_any (bytes_eq (attribute_text a.name)) (names_of later) ≡ true = rw (← is) (sym (same key) ∙ has) in
    let here : all_distinct (names_of (a ∷ later)) ≡ false = rw again refl in
    rw (regrouped attributes before rest later a all cut, map-append) (distinct-append (names_of before) (names_of (a ∷ later)) here)

cond_or : (a b : Bool) → cond a true b ≡ (a || b)
cond_or true b = refl
cond_or false b = refl

-- one key more
pub has_more : (keys more : List (Bor (List ℕ))) (names : List (List ℕ)) (name : List ℕ) (key : Bor (List ℕ)) → key.now ≡ name → HasNames keys names → ((q : Bor (List ℕ)) → has_key more q ≡ cond (is_eq (slice_cmp nat_cmp key.now q.now)) true (has_key keys q)) → HasNames more (name ∷ names)
has_more keys more names name key is same added q =
    added q ∙ ap (λ b. cond b true (has_key keys q)) (is_eq-slice_cmp key.now q.now ∙ bytes_eq-flip key.now q.now)
    ∙ cond_or (bytes_eq q.now key.now) (has_key keys q) ∙ ap (λ b. bytes_eq q.now key.now || b) (same q) ∙ ap (λ n. bytes_eq q.now n || list_any (bytes_eq q.now) names) is

pub seen-step : (attributes before rest : List Attribute) (keys more : List (Bor (List ℕ))) (a : Attribute) (key : Bor (List ℕ)) → rest ≡ before ++ a ∷ [] → key.now ≡ attribute_text a.name → has_key keys key ≡ false
    → ((q : Bor (List ℕ)) → has_key more q ≡ cond (is_eq (slice_cmp nat_cmp key.now q.now)) true (has_key keys q)) → IsSeen attributes rest keys → IsSeen attributes before more
seen-step attributes before rest keys more a key cut is new added (later, all, distinct, same) =
    let fresh : list_any (bytes_eq (attribute_text a.name)) (names_of later) ≡ false = rw (← is) (sym (same key) ∙ new) in
    let here : all_distinct (names_of (a ∷ later)) ≡ true = rw (fresh, distinct) refl in
    (a ∷ later, regrouped attributes before rest later a all cut, here, has_more keys more (names_of later) (attribute_text a.name) key is same added)

pub seen-end : (attributes rest : List Attribute) (keys : List (Bor (List ℕ))) → length rest ≡ 0 → IsSeen attributes rest keys → all_distinct (names_of attributes) ≡ true
seen-end attributes rest keys none (later, all, distinct, same) =
    rw (all, nil_from_length rest none) distinct

pub not-not : (added has : Bool) → added ≡ not has → added ≡ false → has ≡ true
not-not added true is none = refl
not-not added false is none = absurd (cc)

pub not-true : (added has : Bool) → added ≡ not has → added ≡ true → has ≡ false
not-true added false is some = refl
not-true added true is some = absurd (cc)
