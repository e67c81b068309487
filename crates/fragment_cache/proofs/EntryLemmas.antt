-- Entries and flights as lists of pairs with keys.
use Rattle.std.proofs.Common.{◌≡◌, ℕ, zero, suc, ◌+◌, ◌-◌, ◌≤◌, Bool, true, false, not, cond, List, [], ◌∷◌, ◌++◌, length, take, filter, Option, Some, None, refl, sym, ◌∙◌, ap, subst, arith, bytes_eq, nat_lt, option_and_then, slice_get}
use Rattle.std.proofs.lemmas.List.{take_all}
use Rattle.std.proofs.lemmas.Slice.Eq.{bytes_eq-Decides}
use Rattle.std.proofs.lemmas.Map.Keys.{IsDistinct-head, IsDistinct-tail}
use Rattle.std.specs.List.{AllByRecursion, IsDistinct}
use Rattle.edge_types.specs.Answered.{Answered}
use Rattle.std.specs.Map.{keys_of, lookup_entry, remove_entry}
use Rattle.lru.specs.LruCache.{LruCache, promoted, put_entries, lru_cache, IsValid}
use Rattle.fragment_cache.specs.Machine.{Entry, Entries, Shelf, entry_of, others, used, stored, answer_before, fresh, bridge_end, bridging}
use Rattle.fragment_cache.specs.Sound.{IsNamed, AreEntries}

pub same_bytes : (x y : List ℕ) → bytes_eq x y ≡ true → x ≡ y
same_bytes x y e = (bytes_eq-Decides x y).0 e

module _ {K X : Type 0} (eq : K → K → Bool) (exact : (x y : K) → eq x y ≡ true → x ≡ y) (k : K) where
  -- no key of the entries is k
  abbrev pub NoneIs : List (K × X) → Type 0
  NoneIs es = AllByRecursion (λ y. eq k y ≡ false) (keys_of es)

  abbrev pub of_key : List (K × X) → List (K × X)
  of_key es = filter (λ e. eq k e.0) es

  abbrev pub of_others : List (K × X) → List (K × X)
  of_others es = filter (λ e. not (eq k e.0)) es

  pub of_others-none : (es : List (K × X)) → NoneIs es → of_others es ≡ es
  of_others-none [] h = refl
  of_others-none (e ∷ es) h = rw (h.0) (ap (λ l. e ∷ l) (of_others-none es h.1))

  pub of_key-none : (es : List (K × X)) → NoneIs es → of_key es ≡ []
  of_key-none [] h = refl
  of_key-none (e ∷ es) h = rw (h.0) (of_key-none es h.1)

  -- the keys after k are others
  pub rest_differs : (j : K) (es : List (K × X)) → eq k j ≡ true → IsDistinct eq (j ∷ keys_of es) → NoneIs es
  rest_differs j es e d = let same : k ≡ j = exact k j e in subst (λ i. AllByRecursion (λ y. eq i y ≡ false) (keys_of es)) (sym same) (IsDistinct-head eq j (keys_of es) d)

  pub remove_entry-others : (es : List (K × X)) → IsDistinct eq (keys_of es) → remove_entry (eq k) es ≡ of_others es
  remove_entry-others [] d = refl
  remove_entry-others (e ∷ es) d = (elim (eq k e.0) as (λ b. eq k e.0 ≡ b → remove_entry (eq k) (e ∷ es) ≡ of_others (e ∷ es)) [
    | true ↦ λ is. rw is (sym (of_others-none es (rest_differs e.0 es is d)))
    | false ↦ λ is. rw is (ap (λ l. e ∷ l) (remove_entry-others es (IsDistinct-tail eq e.0 (keys_of es) d)))
  ]) refl

  -- what isn't found is not there
  pub none_is : (es : List (K × X)) → lookup_entry (eq k) es ≡ None → NoneIs es
  none_is [] h = tt
  none_is (e ∷ es) h = (elim (eq k e.0) as (λ b. eq k e.0 ≡ b → NoneIs (e ∷ es)) [
    | true ↦ λ is. let h' = rw is at h in absurd (cc)
    | false ↦ λ is. (is, none_is es (rw is at h))
  ]) refl

  -- what is found is the one entry of its key
  pub of_key-found : (es : List (K × X)) (j : K × X) → IsDistinct eq (keys_of es) → lookup_entry (eq k) es ≡ Some j → of_key es ≡ j ∷ []
  of_key-found [] j d h = absurd (cc)
  of_key-found (e ∷ es) j d h = (elim (eq k e.0) as (λ b. eq k e.0 ≡ b → of_key (e ∷ es) ≡ j ∷ []) [
    | true ↦ λ is. let h' = rw is at h in let same : e ≡ j = cc in rw (is, of_key-none es (rest_differs e.0 es is d)) (ap (λ x. x ∷ []) same)
    | false ↦ λ is. rw is (of_key-found es j (IsDistinct-tail eq e.0 (keys_of es) d) (rw is at h))
  ]) refl

  pub found_key : (es : List (K × X)) (j : K × X) → lookup_entry (eq k) es ≡ Some j → k ≡ j.0
  found_key [] j h = absurd (cc)
  found_key (e ∷ es) j h = (elim (eq k e.0) as (λ b. eq k e.0 ≡ b → k ≡ j.0) [
    | true ↦ λ is. let h' = rw is at h in let same : e ≡ j = cc in exact k e.0 is ∙ ap (λ x. x.0) same
    | false ↦ λ is. found_key es j (rw is at h)
  ]) refl

  pub length-without_found : (es : List (K × X)) (j : K × X) → lookup_entry (eq k) es ≡ Some j → length (remove_entry (eq k) es) + 1 ≡ length es
  length-without_found [] j h = absurd (cc)
  length-without_found (e ∷ es) j h = (elim (eq k e.0) as (λ b. eq k e.0 ≡ b → length (remove_entry (eq k) (e ∷ es)) + 1 ≡ length (e ∷ es)) [
    | true ↦ λ is. rw is (omega arith)
    | false ↦ λ is. let rest : length (remove_entry (eq k) es) + 1 ≡ length es = length-without_found es j (rw is at h) in rw is (omega arith)
  ]) refl

  pub promoted-used : (es : List (K × X)) → IsDistinct eq (keys_of es) → promoted (eq k) es ≡ of_key es ++ of_others es
  promoted-used es d = by_case (lookup_entry (eq k) es) refl
    where
      by_case : (o : Option (K × X)) → lookup_entry (eq k) es ≡ o → promoted (eq k) es ≡ of_key es ++ of_others es
      by_case None is = rw (is, of_key-none es (none_is es is)) (sym (of_others-none es (none_is es is)))
      by_case (Some j) is = rw (is, of_key-found es j d is) (ap (λ l. j ∷ l) (remove_entry-others es d))

  pub put_entries-stored : (es : List (K × X)) (n : ℕ) (v : X) → IsDistinct eq (keys_of es) → length es ≤ n → put_entries eq (lru_cache es n) k v ≡ (k, v) ∷ take (n - 1) (of_others es)
  put_entries-stored es n v d within = by_case (lookup_entry (eq k) es) refl
    where
      by_case : (o : Option (K × X)) → lookup_entry (eq k) es ≡ o → put_entries eq (lru_cache es n) k v ≡ (k, v) ∷ take (n - 1) (of_others es)
      by_case None is = rw (is) (ap (λ l. (k, v) ∷ take (n - 1) l) (sym (of_others-none es (none_is es is))))
      by_case (Some j) is =
          let room : length (of_others es) ≤ n - 1 = (let removed : length (remove_entry (eq k) es) + 1 ≡ length es = length-without_found es j is in let same : length (remove_entry (eq k) es) ≡ length (of_others es) = ap length (remove_entry-others es d) in omega arith) in
          rw is (ap (λ i. (i, v) ∷ remove_entry (eq k) es) (sym (found_key es j is)) ∙ ap (λ l. (k, v) ∷ l) (remove_entry-others es d ∙ sym (take_all (n - 1) (of_others es) room)))

-- what is first stays first
pub promoted-newest : (url : List ℕ) (es : Entries) (first : List ℕ × Entry) → slice_get es 0 ≡ Some first → first.0 ≡ url → promoted (bytes_eq url) es ≡ es
promoted-newest url [] first is same = absurd (cc)
promoted-newest url (e ∷ es) first is same =
    let is_first : e ≡ first = cc in
    let found : bytes_eq url e.0 ≡ true = (bytes_eq-Decides url e.0).1 (sym (ap (λ (x : List ℕ × Entry). x.0) is_first ∙ same)) in
    rw found refl

-- ---- what holds of each entry

module _ {X : Type 0} (P : X → Type 0) where
  pub each_filter : (p : X → Bool) (xs : List X) → AllByRecursion P xs → AllByRecursion P (filter p xs)
  each_filter p [] h = tt
  each_filter p (x ∷ xs) h = (elim (p x) as (λ b. p x ≡ b → AllByRecursion P (filter p (x ∷ xs))) [
    | true ↦ λ is. rw is (h.0, each_filter p xs h.1)
    | false ↦ λ is. rw is (each_filter p xs h.1)
  ]) refl

  pub each_append : (xs ys : List X) → AllByRecursion P xs → AllByRecursion P ys → AllByRecursion P (xs ++ ys)
  each_append [] ys h i = i
  each_append (x ∷ xs) ys h i = (h.0, each_append xs ys h.1 i)

  pub each_take : (n : ℕ) (xs : List X) → AllByRecursion P xs → AllByRecursion P (take n xs)
  each_take zero xs h = tt
  each_take (suc n) [] h = tt
  each_take (suc n) (x ∷ xs) h = (h.0, each_take n xs h.1)

-- ---- the shelf after each call of the cache

abbrev pub shelf : Entries → ℕ → Shelf
shelf entries capacity = record { entries = entries; capacity = capacity }

same_shelf : (url : List ℕ) (f : Entries → Entries) (old new : LruCache (List ℕ) Entry) (s : Shelf) → shelf old.entries old.cap ≡ s → new.entries ≡ f old.entries → new.cap ≡ old.cap → shelf new.entries new.cap ≡ shelf (f s.entries) s.capacity
same_shelf url f old new s view entries cap = subst (λ (t : Shelf). shelf new.entries new.cap ≡ shelf (f t.entries) t.capacity) view (ap (λ (es : Entries). shelf es new.cap) entries ∙ ap (λ (n : ℕ). shelf (f old.entries) n) cap)

sound_after : (new : LruCache (List ℕ) Entry) (es : Entries) → new.entries ≡ es → AllByRecursion IsNamed es → IsValid bytes_eq new → AreEntries new.cap new.entries
sound_after new es is named valid = record { named = subst (AllByRecursion IsNamed) (sym is) named; distinct = valid.0; within = valid.1 }

module _ (url : List ℕ) (old new : LruCache (List ℕ) Entry) (sound : AreEntries old.cap old.entries) where
  named_others : AllByRecursion IsNamed (others url old.entries)
  named_others = each_filter IsNamed (λ (e : List ℕ × Entry). not (bytes_eq url e.0)) old.entries sound.named

  module _ (is : new ≡ lru_cache (promoted (bytes_eq url) old.entries) old.cap) where
    entries_used : new.entries ≡ used url old.entries
    entries_used = ap (λ (c : LruCache (List ℕ) Entry). c.entries) is ∙ promoted-used bytes_eq same_bytes url old.entries sound.distinct

    pub sound-promoted : IsValid bytes_eq new → AreEntries new.cap new.entries
    sound-promoted valid = sound_after new (used url old.entries) entries_used (each_append IsNamed (filter (λ (e : List ℕ × Entry). bytes_eq url e.0) old.entries) (others url old.entries) (each_filter IsNamed (λ (e : List ℕ × Entry). bytes_eq url e.0) old.entries sound.named) named_others) valid

    pub shelf-promoted : (s : Shelf) → shelf old.entries old.cap ≡ s → shelf new.entries new.cap ≡ shelf (used url s.entries) s.capacity
    shelf-promoted s view = same_shelf url (used url) old new s view entries_used (ap (λ (c : LruCache (List ℕ) Entry). c.cap) is)

  module _ (is : new ≡ lru_cache (remove_entry (bytes_eq url) old.entries) old.cap) where
    entries_others : new.entries ≡ others url old.entries
    entries_others = ap (λ (c : LruCache (List ℕ) Entry). c.entries) is ∙ remove_entry-others bytes_eq same_bytes url old.entries sound.distinct

    pub sound-removed : IsValid bytes_eq new → AreEntries new.cap new.entries
    sound-removed valid = sound_after new (others url old.entries) entries_others named_others valid

    pub shelf-removed : (s : Shelf) → shelf old.entries old.cap ≡ s → shelf new.entries new.cap ≡ shelf (others url s.entries) s.capacity
    shelf-removed s view = same_shelf url (others url) old new s view entries_others (ap (λ (c : LruCache (List ℕ) Entry). c.cap) is)

  module _ (key : List ℕ) (entry e : Entry) (key_is : key ≡ url) (e_is : e ≡ entry) (is : new ≡ lru_cache (put_entries bytes_eq old key e) old.cap) where
    entries_stored : new.entries ≡ stored old.cap url entry old.entries
    entries_stored = ap (λ (c : LruCache (List ℕ) Entry). c.entries) is ∙ ap (λ (k : List ℕ). put_entries bytes_eq old k e) key_is ∙ ap (λ (v : Entry). put_entries bytes_eq old url v) e_is
        ∙ put_entries-stored bytes_eq same_bytes url old.entries old.cap entry sound.distinct sound.within

    pub sound-put : entry.answer.url ≡ url → IsValid bytes_eq new → AreEntries new.cap new.entries
    sound-put named valid = sound_after new (stored old.cap url entry old.entries) entries_stored (named, each_take IsNamed (old.cap - 1) (others url old.entries) named_others) valid

    pub shelf-put : (s : Shelf) → shelf old.entries old.cap ≡ s → shelf new.entries new.cap ≡ shelf (stored s.capacity url entry s.entries) s.capacity
    shelf-put s view = subst (λ (t : Shelf). shelf new.entries new.cap ≡ shelf (stored t.capacity url entry t.entries) t.capacity) view (ap (λ (es : Entries). shelf es new.cap) entries_stored ∙ ap (λ (n : ℕ). shelf (stored old.cap url entry old.entries) n) (ap (λ (c : LruCache (List ℕ) Entry). c.cap) is))

-- the entry that is found holds an answer of the URL
entry_named : (entries : Entries) (url : List ℕ) (e : Entry) → AllByRecursion IsNamed entries → entry_of entries url ≡ Some e → e.answer.url ≡ url
entry_named [] url e named is = absurd (cc)
entry_named (x ∷ xs) url e named is = (elim (bytes_eq url x.0) as (λ b. bytes_eq url x.0 ≡ b → e.answer.url ≡ url) [
  | true ↦ λ t. let is' = rw t at is in let same : x.1 ≡ e = cc in subst (λ (y : Entry). y.answer.url ≡ url) same (named.0 ∙ sym (same_bytes url x.0 t))
  | false ↦ λ t. entry_named xs url e named.1 (rw t at is)
]) refl

-- so is an answer of it that is given before some second
answer_named : (entries : Entries) (url : List ℕ) (now : ℕ) (end : Entry → ℕ) (answer : Answered) → AllByRecursion IsNamed entries
    → option_and_then (λ (e : Entry). answer_before now (end e) e.answer) (entry_of entries url) ≡ Some answer → answer.url ≡ url
answer_named entries url now end answer named is = by_entry (entry_of entries url) refl
  where
    by_test : (e : Entry) (b : Bool) → e.answer.url ≡ url → cond b (Some e.answer) None ≡ Some answer → answer.url ≡ url
    by_test e true n h = let same : e.answer ≡ answer = cc in subst (λ (a : Answered). a.url ≡ url) same n
    by_test e false n h = absurd (cc)

    by_entry : (o : Option Entry) → entry_of entries url ≡ o → answer.url ≡ url
    by_entry None at = let h : None ≡ Some answer = sym (ap (option_and_then (λ (e : Entry). answer_before now (end e) e.answer)) at) ∙ is in absurd (cc)
    by_entry (Some e) at = by_test e (nat_lt now (end e)) (entry_named entries url e named at) (sym (ap (option_and_then (λ (e : Entry). answer_before now (end e) e.answer)) at) ∙ is)

pub fresh_named : (entries : Entries) (url : List ℕ) (now : ℕ) (answer : Answered) → AllByRecursion IsNamed entries → fresh entries url now ≡ Some answer → answer.url ≡ url
fresh_named entries url now answer named is = answer_named entries url now (λ e. e.expiry) answer named is

pub bridging_named : (entries : Entries) (url : List ℕ) (now : ℕ) (answer : Answered) → AllByRecursion IsNamed entries → bridging entries url now ≡ Some answer → answer.url ≡ url
bridging_named entries url now answer named is = answer_named entries url now bridge_end answer named is
