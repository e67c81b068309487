-- What a purge leaves.
use Rattle.std.proofs.Common.{◌≡◌, ℕ, ◌≤◌, Bool, true, false, not, cond, ◌||◌, ◌&&◌, List, [], ◌∷◌, length, filter, refl, sym, ◌∙◌, ap, subst, arith, bytes_eq}
use Rattle.std.specs.List.{AllByRecursion}
use Rattle.std.specs.Map.{keys_of}
use Rattle.fragment_cache.specs.Machine.{Entry, Entries, Shelf, others, left, is_among}
use Rattle.fragment_cache.proofs.EntryLemmas.{same_bytes}
use Rattle.fragment_cache.proofs.LookupLemmas.{bytes_itself}

-- the entries of all URLs but these, which are removed one by one
abbrev pub without_all : List (List ℕ) → Entries → Entries
without_all [] entries = entries
without_all (url ∷ urls) entries = without_all urls (others url entries)

left_twice : (p q : List ℕ → Bool) (es : Entries) → left q (left p es) ≡ left (λ url. p url || q url) es
left_twice p q [] = refl
left_twice p q (e ∷ es) = (elim (p e.0) as (λ b. p e.0 ≡ b → left q (left p (e ∷ es)) ≡ left (λ url. p url || q url) (e ∷ es)) [
  | true ↦ λ is. rw is (left_twice p q es)
  | false ↦ λ is. rw is (ap (λ (l : Entries). cond (not (q e.0)) (e ∷ l) l) (left_twice p q es))
]) refl

all_left : (es : Entries) → left (is_among []) es ≡ es
all_left [] = refl
all_left (e ∷ es) = ap (λ (l : Entries). e ∷ l) (all_left es)

pub without_all-left : (urls : List (List ℕ)) (es : Entries) → without_all urls es ≡ left (is_among urls) es
without_all-left [] es = sym (all_left es)
without_all-left (url ∷ urls) es = without_all-left urls (others url es) ∙ left_twice (bytes_eq url) (is_among urls) es

-- a URL is among those that pass a test if it is among all of them and passes it
is_among-filter : (p : List ℕ → Bool) (urls : List (List ℕ)) (k : List ℕ) → is_among (filter p urls) k ≡ (p k && is_among urls k)
is_among-filter p [] k = by_test (p k)
  where
    by_test : (b : Bool) → false ≡ (b && false)
    by_test true = refl
    by_test false = refl
is_among-filter p (u ∷ us) k = by_tests (p u) (bytes_eq u k) refl refl (is_among-filter p us k)
  where
    by_tests : (b c : Bool) → p u ≡ b → bytes_eq u k ≡ c → is_among (filter p us) k ≡ (p k && is_among us k) → is_among (filter p (u ∷ us)) k ≡ (p k && is_among (u ∷ us) k)
    by_tests true true is same rest = rw (is, same, sym (ap p (same_bytes u k same)) ∙ is) refl
    by_tests true false is other rest = rw (is, other) rest
    by_tests false true is same rest = let no : p k ≡ false = sym (ap p (same_bytes u k same)) ∙ is in rw (is, no) (rest ∙ rw no refl)
    by_tests false false is other rest = rw (is, other) rest

-- each entry's URL is among the URLs of the entries
among_more : (url : List ℕ) (urls : List (List ℕ)) (es : Entries) → AllByRecursion (λ (e : List ℕ × Entry). is_among urls e.0 ≡ true) es → AllByRecursion (λ (e : List ℕ × Entry). is_among (url ∷ urls) e.0 ≡ true) es
among_more url urls [] each = tt
among_more url urls (e ∷ es) each = (by_test (bytes_eq url e.0), among_more url urls es each.1)
  where
    by_test : (b : Bool) → (b || is_among urls e.0) ≡ true
    by_test true = refl
    by_test false = each.0

among_all : (es : Entries) → AllByRecursion (λ (e : List ℕ × Entry). is_among (keys_of es) e.0 ≡ true) es
among_all [] = tt
among_all (e ∷ es) = (ap (λ (b : Bool). b || is_among (keys_of es) e.0) (bytes_itself e.0), among_more e.0 (keys_of es) es (among_all es))

passed : (p : List ℕ → Bool) (urls : List (List ℕ)) (es : Entries) → AllByRecursion (λ (e : List ℕ × Entry). is_among urls e.0 ≡ true) es → left (is_among (filter p urls)) es ≡ left p es
passed p urls [] each = refl
passed p urls (e ∷ es) each =
    let same : is_among (filter p urls) e.0 ≡ p e.0 = is_among-filter p urls e.0 ∙ ap (λ (b : Bool). p e.0 && b) each.0 ∙ by_test (p e.0) in
    rw same (ap (λ (l : Entries). cond (not (p e.0)) (e ∷ l) l) (passed p urls es each.1))
  where
    by_test : (b : Bool) → (b && true) ≡ b
    by_test true = refl
    by_test false = refl

-- with the URLs that pass a test all of them are gone
left_passing : (p : List ℕ → Bool) (es : Entries) → left (is_among (filter p (keys_of es))) es ≡ left p es
left_passing p es = passed p (keys_of es) es (among_all es)

-- a purge leaves no more than there was
pub length-left : (is_gone : List ℕ → Bool) (es : Entries) → length (left is_gone es) ≤ length es
length-left is_gone [] = omega arith
length-left is_gone (e ∷ es) = (let fewer : length (left is_gone es) ≤ length es = length-left is_gone es in elim (is_gone e.0) as (λ b. is_gone e.0 ≡ b → length (left is_gone (e ∷ es)) ≤ length (e ∷ es)) [
  | true ↦ λ is. rw is (omega arith)
  | false ↦ λ is. rw is (omega arith)
]) refl

-- ---- the shelf after a purge

pub shelf_is : (s : Shelf) (es : Entries) (n : ℕ) → s.entries ≡ es → s.capacity ≡ n → s ≡ record { entries = es; capacity = n }
shelf_is s es n entries capacity = ap (λ (l : Entries). record { entries = l; capacity = s.capacity }) entries ∙ ap (λ (m : ℕ). record { entries = es; capacity = m }) capacity

pub left_passing_of : (p : List ℕ → Bool) (urls : List (List ℕ)) (es : Entries) (n : ℕ) (s : Shelf) → urls ≡ filter p (keys_of es) → record { entries = es; capacity = n } ≡ s → left (is_among urls) s.entries ≡ left p s.entries
left_passing_of p urls es n s found view = subst (λ (t : Shelf). left (is_among urls) t.entries ≡ left p t.entries) view (ap (λ (us : List (List ℕ)). left (is_among us) es) found ∙ left_passing p es)
