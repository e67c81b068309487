-- The faults as a list of pairs with keys.
use Rattle.std.proofs.Common.{◌≡◌, ℕ, ◌+◌, ◌-◌, ◌≤◌, Bool, true, false, not, List, [], ◌∷◌, length, take, filter, Option, Some, None, refl, sym, ◌∙◌, ap, subst, arith, bytes_eq}
use Rattle.std.proofs.lemmas.List.{take_all}
use Rattle.std.proofs.lemmas.Slice.Eq.{bytes_eq-Decides}
use Rattle.std.proofs.lemmas.Map.Keys.{IsDistinct-head, IsDistinct-tail}
use Rattle.std.specs.List.{AllByRecursion, IsDistinct}
use Rattle.std.specs.Map.{keys_of, lookup_entry, remove_entry}
use Rattle.lru.specs.LruCache.{LruCache, put_entries, lru_cache}
use Rattle.fetch_outcomes.specs.declared.fetch_fault.FetchFault.{FetchFault}
use Rattle.origins.specs.Notes.{Entries, Faults, AreFaults, others, noted}

same_bytes : (x y : List ℕ) → bytes_eq x y ≡ true → x ≡ y
same_bytes x y e = (bytes_eq-Decides x y).0 e

module _ {K X : Type 0} (eq : K → K → Bool) (exact : (x y : K) → eq x y ≡ true → x ≡ y) (k : K) where
  -- no key of the entries is k
  abbrev NoneIs : List (K × X) → Type 0
  NoneIs es = AllByRecursion (λ y. eq k y ≡ false) (keys_of es)

  abbrev of_others : List (K × X) → List (K × X)
  of_others es = filter (λ e. not (eq k e.0)) es

  of_others-none : (es : List (K × X)) → NoneIs es → of_others es ≡ es
  of_others-none [] h = refl
  of_others-none (e ∷ es) h = rw (h.0) (ap (λ l. e ∷ l) (of_others-none es h.1))

  -- the keys after k are others
  rest_differs : (j : K) (es : List (K × X)) → eq k j ≡ true → IsDistinct eq (j ∷ keys_of es) → NoneIs es
  rest_differs j es e d = let same : k ≡ j = exact k j e in subst (λ i. AllByRecursion (λ y. eq i y ≡ false) (keys_of es)) (sym same) (IsDistinct-head eq j (keys_of es) d)

  remove_entry-others : (es : List (K × X)) → IsDistinct eq (keys_of es) → remove_entry (eq k) es ≡ of_others es
  remove_entry-others [] d = refl
  remove_entry-others (e ∷ es) d = (elim (eq k e.0) as (λ b. eq k e.0 ≡ b → remove_entry (eq k) (e ∷ es) ≡ of_others (e ∷ es)) [
    | true ↦ λ is. rw is (sym (of_others-none es (rest_differs e.0 es is d)))
    | false ↦ λ is. rw is (ap (λ l. e ∷ l) (remove_entry-others es (IsDistinct-tail eq e.0 (keys_of es) d)))
  ]) refl

  -- what isn't found is not there
  none_is : (es : List (K × X)) → lookup_entry (eq k) es ≡ None → NoneIs es
  none_is [] h = tt
  none_is (e ∷ es) h = (elim (eq k e.0) as (λ b. eq k e.0 ≡ b → NoneIs (e ∷ es)) [
    | true ↦ λ is. let h' = rw is at h in absurd (cc)
    | false ↦ λ is. (is, none_is es (rw is at h))
  ]) refl

  found_key : (es : List (K × X)) (j : K × X) → lookup_entry (eq k) es ≡ Some j → k ≡ j.0
  found_key [] j h = absurd (cc)
  found_key (e ∷ es) j h = (elim (eq k e.0) as (λ b. eq k e.0 ≡ b → k ≡ j.0) [
    | true ↦ λ is. let h' = rw is at h in let same : e ≡ j = cc in exact k e.0 is ∙ ap (λ x. x.0) same
    | false ↦ λ is. found_key es j (rw is at h)
  ]) refl

  length-without_found : (es : List (K × X)) (j : K × X) → lookup_entry (eq k) es ≡ Some j → length (remove_entry (eq k) es) + 1 ≡ length es
  length-without_found [] j h = absurd (cc)
  length-without_found (e ∷ es) j h = (elim (eq k e.0) as (λ b. eq k e.0 ≡ b → length (remove_entry (eq k) (e ∷ es)) + 1 ≡ length (e ∷ es)) [
    | true ↦ λ is. rw is (omega arith)
    | false ↦ λ is. let rest : length (remove_entry (eq k) es) + 1 ≡ length es = length-without_found es j (rw is at h) in rw is (omega arith)
  ]) refl

  put_entries-first : (es : List (K × X)) (n : ℕ) (v : X) → IsDistinct eq (keys_of es) → length es ≤ n → put_entries eq (lru_cache es n) k v ≡ (k, v) ∷ take (n - 1) (of_others es)
  put_entries-first es n v d within = by_case (lookup_entry (eq k) es) refl
    where
      by_case : (o : Option (K × X)) → lookup_entry (eq k) es ≡ o → put_entries eq (lru_cache es n) k v ≡ (k, v) ∷ take (n - 1) (of_others es)
      by_case None is = rw (is) (ap (λ l. (k, v) ∷ take (n - 1) l) (sym (of_others-none es (none_is es is))))
      by_case (Some j) is =
          let room : length (of_others es) ≤ n - 1 = (let removed : length (remove_entry (eq k) es) + 1 ≡ length es = length-without_found es j is in let same : length (remove_entry (eq k) es) ≡ length (of_others es) = ap length (remove_entry-others es d) in omega arith) in
          rw is (ap (λ i. (i, v) ∷ remove_entry (eq k) es) (sym (found_key es j is)) ∙ ap (λ l. (k, v) ∷ l) (remove_entry-others es d ∙ sym (take_all (n - 1) (of_others es) room)))

abbrev shelf : Entries → ℕ → Faults
shelf entries capacity = record { entries = entries; capacity = capacity }

-- the faults after one was put into the cache
pub faults-put : (url key : List ℕ) (fault : FetchFault) (old new : LruCache (List ℕ) FetchFault) → AreFaults old.cap old.entries → key ≡ url
    → new ≡ lru_cache (put_entries bytes_eq old key fault) old.cap
    → (f : Faults) → shelf old.entries old.cap ≡ f → shelf new.entries new.cap ≡ noted fault url f
faults-put url key fault old new are key_is is f view =
    let entries : new.entries ≡ (url, fault) ∷ take (old.cap - 1) (others url old.entries) =
    ap (λ (c : LruCache (List ℕ) FetchFault). c.entries) is ∙ ap (λ (k : List ℕ). put_entries bytes_eq old k fault) key_is
    ∙ put_entries-first bytes_eq same_bytes url old.entries old.cap fault are.distinct are.within in
    let cap : new.cap ≡ old.cap = ap (λ (c : LruCache (List ℕ) FetchFault). c.cap) is in
    subst (λ (g : Faults). shelf new.entries new.cap ≡ noted fault url g) view
    (ap (λ (es : Entries). shelf es new.cap) entries ∙ ap (λ (n : ℕ). shelf ((url, fault) ∷ take (old.cap - 1) (others url old.entries)) n) cap)
