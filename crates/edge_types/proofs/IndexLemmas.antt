-- The index of a table: the places of answers by the fingerprints of their URLs.
use Rattle.std.proofs.Common.{◌≡◌, ◌⊎◌, inl, inr, ℕ, Bool, true, false, List, [], ◌∷◌, ◌++◌, length, Option, Some, None, find, position, is_some, get_or, refl, sym, ◌∙◌, ap, cond, ◌==◌, subst, arith}
use Rattle.std.proofs.lemmas.Bool.{eq-eqb, eqb-true}
use Rattle.std.proofs.lemmas.Bool.Decides.{nat_tests}
use Rattle.std.proofs.lemmas.List.Quantifiers.{position-Some}
use Rattle.std.proofs.lemmas.Map.Text.{is_eq-slice_cmp}
use Rattle.std.proofs.lemmas.Slice.Eq.{bytes_eq-Decides}
use Rattle.std.specs.BTreeMap.{BTreeMap, get, is_at}
use Rattle.std.specs.Cmp.Lexicographic.{slice_cmp}
use Rattle.std.specs.Ordering.{nat_cmp}
use Rattle.edge_types.specs.Answered.{Answered}
use Rattle.edge_types.specs.declared.answer.Reply.TheVariants.{Failed}
use Rattle.edge_types.specs.Places.{Places, has_print, print_of}
use Rattle.edge_types.specs.Table.{is_of}
use Rattle.edge_types.proofs.TableLemmas.{position-is, position-none, position-push_found, position-push_kept, position-push_other, fails, IsTable-push}

true_is_not_false : true ≡ false → ⊥
true_is_not_false e = cc

-- two fingerprints compare as equal where they are
is_eq-nat_cmp : (m n : ℕ) → is_at (nat_cmp m) n ≡ (m == n)
is_eq-nat_cmp m n = grind (arith, nat_tests)

-- an answer of a URL has the URL's fingerprint
own_print : (url : List ℕ) (answer : Answered) → is_of url answer ≡ true → has_print (print_of url) answer ≡ true
own_print url answer e = rw ((bytes_eq-Decides answer.url url).0 e) (eq-eqb (print_of url) (print_of url) refl)

other_url : (url : List ℕ) (answer : Answered) → has_print (print_of url) answer ≡ false → is_of url answer ≡ false
other_url url answer e = by_test (is_of url answer) refl
  where
    by_test : (b : Bool) → is_of url answer ≡ b → is_of url answer ≡ false
    by_test true is = absurd (true_is_not_false (sym (own_print url answer is) ∙ e))
    by_test false is = is

-- no answer of the URL's fingerprint, so none of the URL
pub unplaced : (url : List ℕ) (answers : List Answered) → position (has_print (print_of url)) answers ≡ None → position (is_of url) answers ≡ None
unplaced url answers e = by_place (position (is_of url) answers) refl
  where
    by_place : (at : Option ℕ) → position (is_of url) answers ≡ at → position (is_of url) answers ≡ None
    by_place None is = is
    by_place (Some at) is =
        let d : Answered = record { url = url; reply = Failed } in
        let there = position-Some (is_of url) answers at d is in
        absurd (true_is_not_false (sym (own_print url (get_or answers at d) there.1) ∙ fails (has_print (print_of url)) answers e at d there.0))

-- the first answer of the URL's fingerprint, where it is the URL's own
pub placed_first : (url : List ℕ) (answers : List Answered) (at : ℕ) (d : Answered) → position (has_print (print_of url)) answers ≡ Some at → is_of url (get_or answers at d) ≡ true → position (is_of url) answers ≡ Some at
placed_first url answers at d e own =
    let there = position-Some (has_print (print_of url)) answers at d e in
    position-is (is_of url) answers at d there.0 own (λ k h. other_url url (get_or answers k d) (there.2 k h))

-- else the URL's own place is in `others`
pub placed_other : (firsts : BTreeMap ℕ ℕ) (others : BTreeMap (List ℕ) ℕ) (url : List ℕ) (answers : List Answered) (at : ℕ) (d : Answered) → Places firsts others answers
    → position (has_print (print_of url)) answers ≡ Some at → is_of url (get_or answers at d) ≡ false → get (slice_cmp nat_cmp) others url ≡ position (is_of url) answers
placed_other firsts others url answers at d places e other = by_cases (places.rest url)
  where
    by_cases : (position (is_of url) answers ≡ position (has_print (print_of url)) answers) ⊎ (get (slice_cmp nat_cmp) others url ≡ position (is_of url) answers) → get (slice_cmp nat_cmp) others url ≡ position (is_of url) answers
    by_cases (inl same) = absurd (true_is_not_false (sym (position-Some (is_of url) answers at d (same ∙ e)).1 ∙ other))
    by_cases (inr found) = found

-- the places of answers of other fingerprints stay
print_kept : (answers : List Answered) (answer : Answered) (at : ℕ) → position (has_print (print_of answer.url)) answers ≡ Some at
    → (print : ℕ) → position (has_print print) (answers ++ answer ∷ []) ≡ position (has_print print) answers
print_kept answers answer at e print = by_test (has_print print answer) refl
  where
    by_test : (b : Bool) → has_print print answer ≡ b → position (has_print print) (answers ++ answer ∷ []) ≡ position (has_print print) answers
    by_test true is =
        let same : print_of answer.url ≡ print = eqb-true (print_of answer.url) print is in
        let kept = subst (λ p. position (has_print p) answers ≡ Some at) same e in
        position-push_kept (has_print print) answers answer at kept ∙ sym kept
    by_test false is = position-push_other (has_print print) answers answer is

-- one answer more, the first of its fingerprint
pub Places-first : (before after : BTreeMap ℕ ℕ) (others : BTreeMap (List ℕ) ℕ) (answers : List Answered) (answer : Answered) → Places before others answers
    → find (is_of answer.url) answers ≡ None → position (has_print (print_of answer.url)) answers ≡ None
    → ((print : ℕ) → get nat_cmp after print ≡ cond (is_at (nat_cmp (print_of answer.url)) print) (Some (length answers)) (get nat_cmp before print))
    → Places after others (answers ++ answer ∷ [])
Places-first before after others answers answer old e new updates = record {
  first = λ print. updates print ∙ first_by print (is_at (nat_cmp (print_of answer.url)) print) refl;
  rest = λ url. rest_by url (is_of url answer) refl;
  right = λ url. right_by url (is_of url answer) refl;
  once = IsTable-push answers answer none_yet old.once;
}
  where
    none_yet : position (is_of answer.url) answers ≡ None
    none_yet = position-none (is_of answer.url) answers e

    none_of : (url : List ℕ) → is_of url answer ≡ true → position (is_of url) answers ≡ None
    none_of url is = subst (λ u. position (is_of u) answers ≡ None) ((bytes_eq-Decides answer.url url).0 is) none_yet

    none_of_print : (print : ℕ) → has_print print answer ≡ true → position (has_print print) answers ≡ None
    none_of_print print is = subst (λ p. position (has_print p) answers ≡ None) (eqb-true (print_of answer.url) print is) new

    first_by : (print : ℕ) (b : Bool) → is_at (nat_cmp (print_of answer.url)) print ≡ b → cond b (Some (length answers)) (get nat_cmp before print) ≡ position (has_print print) (answers ++ answer ∷ [])
    first_by print true is =
        let matches : has_print print answer ≡ true = sym (is_eq-nat_cmp (print_of answer.url) print) ∙ is in
        sym (position-push_found (has_print print) answers answer (none_of_print print matches) matches)
    first_by print false is =
        let differs : has_print print answer ≡ false = sym (is_eq-nat_cmp (print_of answer.url) print) ∙ is in
        old.first print ∙ sym (position-push_other (has_print print) answers answer differs)

    none_or : (url : List ℕ) → position (is_of url) answers ≡ None → get (slice_cmp nat_cmp) others url ≡ None
    none_or url none = by_cases (old.right url)
      where
        by_cases : (get (slice_cmp nat_cmp) others url ≡ None) ⊎ (get (slice_cmp nat_cmp) others url ≡ position (is_of url) answers) → get (slice_cmp nat_cmp) others url ≡ None
        by_cases (inl absent) = absent
        by_cases (inr found) = found ∙ none

    right_by : (url : List ℕ) (b : Bool) → is_of url answer ≡ b → (get (slice_cmp nat_cmp) others url ≡ None) ⊎ (get (slice_cmp nat_cmp) others url ≡ position (is_of url) (answers ++ answer ∷ []))
    right_by url true is = inl (none_or url (none_of url is))
    right_by url false is = by_cases (old.right url)
      where
        by_cases : (get (slice_cmp nat_cmp) others url ≡ None) ⊎ (get (slice_cmp nat_cmp) others url ≡ position (is_of url) answers)
            → (get (slice_cmp nat_cmp) others url ≡ None) ⊎ (get (slice_cmp nat_cmp) others url ≡ position (is_of url) (answers ++ answer ∷ []))
        by_cases (inl absent) = inl absent
        by_cases (inr found) = inr (found ∙ sym (position-push_other (is_of url) answers answer is))

    rest_by : (url : List ℕ) (b : Bool) → is_of url answer ≡ b
        → (position (is_of url) (answers ++ answer ∷ []) ≡ position (has_print (print_of url)) (answers ++ answer ∷ [])) ⊎ (get (slice_cmp nat_cmp) others url ≡ position (is_of url) (answers ++ answer ∷ []))
    rest_by url true is =
        let printed = own_print url answer is in
        inl (position-push_found (is_of url) answers answer (none_of url is) is ∙ sym (position-push_found (has_print (print_of url)) answers answer (none_of_print (print_of url) printed) printed))
    rest_by url false is = by_print (has_print (print_of url) answer) refl
      where
        same : position (is_of url) (answers ++ answer ∷ []) ≡ position (is_of url) answers
        same = position-push_other (is_of url) answers answer is

        by_cases : has_print (print_of url) answer ≡ false → (position (is_of url) answers ≡ position (has_print (print_of url)) answers) ⊎ (get (slice_cmp nat_cmp) others url ≡ position (is_of url) answers)
            → (position (is_of url) (answers ++ answer ∷ []) ≡ position (has_print (print_of url)) (answers ++ answer ∷ [])) ⊎ (get (slice_cmp nat_cmp) others url ≡ position (is_of url) (answers ++ answer ∷ []))
        by_cases differs (inl first) = inl (same ∙ first ∙ sym (position-push_other (has_print (print_of url)) answers answer differs))
        by_cases differs (inr found) = inr (found ∙ sym same)

        by_print : (b : Bool) → has_print (print_of url) answer ≡ b
            → (position (is_of url) (answers ++ answer ∷ []) ≡ position (has_print (print_of url)) (answers ++ answer ∷ [])) ⊎ (get (slice_cmp nat_cmp) others url ≡ position (is_of url) (answers ++ answer ∷ []))
        by_print true printed =
            let none = unplaced url answers (none_of_print (print_of url) printed) in
            inr (none_or url none ∙ sym none ∙ sym same)
        by_print false differs = by_cases differs (old.rest url)

-- one answer more, whose fingerprint another had first
pub Places-other : (firsts : BTreeMap ℕ ℕ) (before after : BTreeMap (List ℕ) ℕ) (answers : List Answered) (answer : Answered) (at : ℕ) → Places firsts before answers
    → find (is_of answer.url) answers ≡ None → position (has_print (print_of answer.url)) answers ≡ Some at
    → ((url : List ℕ) → get (slice_cmp nat_cmp) after url ≡ cond (is_at (slice_cmp nat_cmp answer.url) url) (Some (length answers)) (get (slice_cmp nat_cmp) before url))
    → Places firsts after (answers ++ answer ∷ [])
Places-other firsts before after answers answer at old e shared updates = record {
  first = λ print. old.first print ∙ sym (print_kept answers answer at shared print);
  rest = λ url. rest_by url (is_at (slice_cmp nat_cmp answer.url) url) refl;
  right = λ url. right_by url (is_at (slice_cmp nat_cmp answer.url) url) refl;
  once = IsTable-push answers answer none_yet old.once;
}
  where
    none_yet : position (is_of answer.url) answers ≡ None
    none_yet = position-none (is_of answer.url) answers e

    by_url : (url : List ℕ) (b : Bool) → is_at (slice_cmp nat_cmp answer.url) url ≡ b → is_of url answer ≡ b
    by_url url b is = sym (is_eq-slice_cmp answer.url url) ∙ is

    placed : (url : List ℕ) → is_at (slice_cmp nat_cmp answer.url) url ≡ true → get (slice_cmp nat_cmp) after url ≡ position (is_of url) (answers ++ answer ∷ [])
    placed url is =
        let matches = by_url url true is in
        let none_here = subst (λ u. position (is_of u) answers ≡ None) ((bytes_eq-Decides answer.url url).0 matches) none_yet in
        updates url ∙ ap (λ b. cond b (Some (length answers)) (get (slice_cmp nat_cmp) before url)) is ∙ sym (position-push_found (is_of url) answers answer none_here matches)

    kept : (url : List ℕ) → is_at (slice_cmp nat_cmp answer.url) url ≡ false → get (slice_cmp nat_cmp) after url ≡ get (slice_cmp nat_cmp) before url
    kept url is = updates url ∙ ap (λ b. cond b (Some (length answers)) (get (slice_cmp nat_cmp) before url)) is

    same : (url : List ℕ) → is_at (slice_cmp nat_cmp answer.url) url ≡ false → position (is_of url) (answers ++ answer ∷ []) ≡ position (is_of url) answers
    same url is = position-push_other (is_of url) answers answer (by_url url false is)

    right_by : (url : List ℕ) (b : Bool) → is_at (slice_cmp nat_cmp answer.url) url ≡ b → (get (slice_cmp nat_cmp) after url ≡ None) ⊎ (get (slice_cmp nat_cmp) after url ≡ position (is_of url) (answers ++ answer ∷ []))
    right_by url true is = inr (placed url is)
    right_by url false is = by_cases (old.right url)
      where
        by_cases : (get (slice_cmp nat_cmp) before url ≡ None) ⊎ (get (slice_cmp nat_cmp) before url ≡ position (is_of url) answers)
            → (get (slice_cmp nat_cmp) after url ≡ None) ⊎ (get (slice_cmp nat_cmp) after url ≡ position (is_of url) (answers ++ answer ∷ []))
        by_cases (inl absent) = inl (kept url is ∙ absent)
        by_cases (inr found) = inr (kept url is ∙ found ∙ sym (same url is))

    rest_by : (url : List ℕ) (b : Bool) → is_at (slice_cmp nat_cmp answer.url) url ≡ b
        → (position (is_of url) (answers ++ answer ∷ []) ≡ position (has_print (print_of url)) (answers ++ answer ∷ [])) ⊎ (get (slice_cmp nat_cmp) after url ≡ position (is_of url) (answers ++ answer ∷ []))
    rest_by url true is = inr (placed url is)
    rest_by url false is = by_cases (old.rest url)
      where
        by_cases : (position (is_of url) answers ≡ position (has_print (print_of url)) answers) ⊎ (get (slice_cmp nat_cmp) before url ≡ position (is_of url) answers)
            → (position (is_of url) (answers ++ answer ∷ []) ≡ position (has_print (print_of url)) (answers ++ answer ∷ [])) ⊎ (get (slice_cmp nat_cmp) after url ≡ position (is_of url) (answers ++ answer ∷ []))
        by_cases (inl first) = inl (same url is ∙ first ∙ sym (print_kept answers answer at shared (print_of url)))
        by_cases (inr found) = inr (kept url is ∙ found ∙ sym (same url is))

-- both, as `add` goes about them
module _ (shown answers room pushed : List Answered) (answer kept : Answered) (print at : ℕ) (first : Option ℕ) (viewed : answers ≡ shown) (absent : find (is_of answer.url) shown ≡ None) (roomy : room ≡ answers)
    (push : pushed ≡ room ++ kept ∷ []) (keeps : kept ≡ answer) (last : at ≡ length room) (printed : print ≡ print_of answer.url) (looked : first ≡ position (has_print print) shown) where
  none_there : find (is_of answer.url) answers ≡ None
  none_there = subst (λ (xs : List Answered). find (is_of answer.url) xs ≡ None) (sym viewed) absent

  first_is : first ≡ position (has_print (print_of answer.url)) answers
  first_is = looked ∙ ap (λ n. position (has_print n) shown) printed ∙ ap (λ (xs : List Answered). position (has_print (print_of answer.url)) xs) (sym viewed)

  last_is : at ≡ length answers
  last_is = last ∙ ap length roomy

  pub Places-added_first : (before after : BTreeMap ℕ ℕ) (others : BTreeMap (List ℕ) ℕ) → Places before others answers → is_some first ≡ false
      → ((q : ℕ) → get nat_cmp after q ≡ cond (is_at (nat_cmp print) q) (Some at) (get nat_cmp before q)) → Places after others pushed
  Places-added_first before after others old new updates = rw (push, roomy, keeps) (by_place (position (has_print (print_of answer.url)) answers) refl)
    where
      by_place : (o : Option ℕ) → position (has_print (print_of answer.url)) answers ≡ o → Places after others (answers ++ answer ∷ [])
      by_place (Some i) is = absurd (true_is_not_false (sym (ap is_some (first_is ∙ is)) ∙ new))
      by_place None is =
          Places-first before after others answers answer old none_there is (λ q.
          subst (λ n. get nat_cmp after q ≡ cond (is_at (nat_cmp n) q) (Some (length answers)) (get nat_cmp before q)) printed (subst (λ i. get nat_cmp after q ≡ cond (is_at (nat_cmp print) q) (Some i) (get nat_cmp before q)) last_is (updates q)))

  pub Places-added_other : (firsts : BTreeMap ℕ ℕ) (before after : BTreeMap (List ℕ) ℕ) (key : List ℕ) → Places firsts before answers → is_some first ≡ true → key ≡ answer.url
      → ((q : List ℕ) → get (slice_cmp nat_cmp) after q ≡ cond (is_at (slice_cmp nat_cmp key) q) (Some at) (get (slice_cmp nat_cmp) before q)) → Places firsts after pushed
  Places-added_other firsts before after key old shared keyed updates = rw (push, roomy, keeps) (by_place (position (has_print (print_of answer.url)) answers) refl)
    where
      by_place : (o : Option ℕ) → position (has_print (print_of answer.url)) answers ≡ o → Places firsts after (answers ++ answer ∷ [])
      by_place None is = absurd (true_is_not_false (sym shared ∙ ap is_some (first_is ∙ is)))
      by_place (Some i) is =
          Places-other firsts before after answers answer i old none_there is (λ q.
          subst (λ (k : List ℕ). get (slice_cmp nat_cmp) after q ≡ cond (is_at (slice_cmp nat_cmp k) q) (Some (length answers)) (get (slice_cmp nat_cmp) before q)) keyed
          (subst (λ n. get (slice_cmp nat_cmp) after q ≡ cond (is_at (slice_cmp nat_cmp key) q) (Some n) (get (slice_cmp nat_cmp) before q)) last_is (updates q)))
