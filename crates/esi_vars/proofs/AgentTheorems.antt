-- What is found behind a word follows the first place at which the word begins.
use Rattle.std.proofs.Common.{◌≡◌, ◌≢◌, ℕ, zero, suc, ◌<◌, Bool, true, false, List, [], ◌∷◌, ◌++◌, length, drop, Option, Some, None, nat_eq, refl, sym, ◌∙◌, ap, arith}
use Rattle.std.specs.List.{starts_with}
use Rattle.std.specs.Str.Iter.{HasSubslice}
use Rattle.std.proofs.lemmas.Bool.Decides.{Decides-eqb}
use Rattle.std.proofs.lemmas.Slice.Eq.{starts_is}
use Rattle.std.proofs.lemmas.List.{drop_at}
use Rattle.esi_vars.specs.Agent.{behind}
use Rattle.esi_vars.specs.Finds.{IsBehind}
use Rattle.esi_vars.specs.Laws.{FindsTheFirst, FindsNone}

-- what the test of a front tells
pub begins : (word text : List ℕ) → starts_with nat_eq text word ≡ true → text ≡ word ++ drop (length word) text
begins word text is = (starts_is Decides-eqb text word (starts_with nat_eq text word) refl).0 is

pub begins_again : (word text rest : List ℕ) → text ≡ word ++ rest → starts_with nat_eq text word ≡ true
begins_again word text rest is = (starts_is Decides-eqb text word (starts_with nat_eq text word) refl).1 rest is

begins_not : (word text rest : List ℕ) → starts_with nat_eq text word ≡ false → text ≢ word ++ rest
begins_not word text rest is whole =
    let clash : true ≡ false = sym (begins_again word text rest whole) ∙ is in absurd (cc)

-- the search at a byte, by whether the word begins there
pub here : (word : List ℕ) (b : ℕ) (bs : List ℕ) → starts_with nat_eq (b ∷ bs) word ≡ true → behind word (b ∷ bs) ≡ Some (drop (length word) (b ∷ bs))
unfolding behind
here word b bs is = rw is refl

pub later : (word : List ℕ) (b : ℕ) (bs : List ℕ) → starts_with nat_eq (b ∷ bs) word ≡ false → behind word (b ∷ bs) ≡ behind word bs
unfolding behind
later word b bs is = rw is refl

pub never : (word : List ℕ) → behind word [] ≡ None
unfolding behind
never word = refl

found_is : (word text rest : List ℕ) → behind word text ≡ Some rest → IsBehind word text rest
found_is word [] rest found = let clash : None ≡ Some rest = sym (never word) ∙ found in absurd (cc)
found_is word (b ∷ bs) rest found = by_test (starts_with nat_eq (b ∷ bs) word) refl (λ e. found_is word bs rest e)
  where
    nowhere : (before : List ℕ) → ((i : ℕ) (after : List ℕ) → i < length before → drop i bs ≢ word ++ after) → starts_with nat_eq (b ∷ bs) word ≡ false
        → (i : ℕ) (after : List ℕ) → i < suc (length before) → drop i (b ∷ bs) ≢ word ++ after
    nowhere before clear is zero after h = begins_not word (b ∷ bs) after is
    nowhere before clear is (suc i) after h = clear i after (omega arith)

    by_test : (t : Bool) → starts_with nat_eq (b ∷ bs) word ≡ t → (behind word bs ≡ Some rest → IsBehind word bs rest) → IsBehind word (b ∷ bs) rest
    by_test true is go =
        let same : Some (drop (length word) (b ∷ bs)) ≡ Some rest = sym (here word b bs is) ∙ found in
        let rest_is : drop (length word) (b ∷ bs) ≡ rest = cc in
        record { before = []; whole = begins word (b ∷ bs) is ∙ ap (λ t. word ++ t) rest_is; first = λ i after h. absurd (omega arith) }
    by_test false is go =
        let found_later = go (sym (later word b bs is) ∙ found) in
        record { before = b ∷ found_later.before; whole = ap (λ t. b ∷ t) found_later.whole; first = nowhere found_later.before found_later.first is }

-- where the word stands behind bytes at which it doesn't begin, what follows it is found
found_behind : (before word rest text : List ℕ) → 0 < length word → text ≡ before ++ (word ++ rest)
    → ((i : ℕ) (after : List ℕ) → i < length before → drop i text ≢ word ++ after) → behind word text ≡ Some rest
found_behind [] [] rest text some whole first = absurd (omega arith)
found_behind [] (w ∷ ws) rest text some whole first =
    let is = begins_again (w ∷ ws) (w ∷ (ws ++ rest)) rest refl in
    rw whole (here (w ∷ ws) w (ws ++ rest) is ∙ ap Some (drop_at (w ∷ ws) rest (length (w ∷ ws)) refl))
found_behind (b ∷ bs) word rest text some whole first =
    let at : (i : ℕ) (after : List ℕ) → i < suc (length bs) → drop i (b ∷ (bs ++ (word ++ rest))) ≢ word ++ after = λ i after h e. first i after h (ap (drop i) whole ∙ e) in
    rw whole (by_test (starts_with nat_eq (b ∷ (bs ++ (word ++ rest))) word) refl (at 0) (found_behind bs word rest (bs ++ (word ++ rest)) some refl (λ i after h. at (suc i) after (omega arith))))
  where
    by_test : (t : Bool) → starts_with nat_eq (b ∷ (bs ++ (word ++ rest))) word ≡ t → ((after : List ℕ) → 0 < suc (length bs) → b ∷ (bs ++ (word ++ rest)) ≢ word ++ after)
        → behind word (bs ++ (word ++ rest)) ≡ Some rest → behind word (b ∷ (bs ++ (word ++ rest))) ≡ Some rest
    by_test true is not_here go = absurd (not_here _ (omega arith) (begins word _ is))
    by_test false is not_here go = later word b (bs ++ (word ++ rest)) is ∙ go

pub finds_the_first : FindsTheFirst
finds_the_first word text rest some =
    (found_is word text rest, λ is. found_behind is.before word rest text some is.whole is.first)

-- a word that stands in a text is found
none_stands : (before word rest : List ℕ) → 0 < length word → behind word (before ++ (word ++ rest)) ≢ None
none_stands [] [] rest some none = absurd (omega arith)
none_stands [] (w ∷ ws) rest some none =
    let found = here (w ∷ ws) w (ws ++ rest) (begins_again (w ∷ ws) (w ∷ (ws ++ rest)) rest refl) in
    let clash : Some (drop (length (w ∷ ws)) (w ∷ (ws ++ rest))) ≡ None = sym found ∙ none in absurd (cc)
none_stands (b ∷ bs) word rest some none = by_test (starts_with nat_eq (b ∷ (bs ++ (word ++ rest))) word) refl (none_stands bs word rest some)
  where
    by_test : (t : Bool) → starts_with nat_eq (b ∷ (bs ++ (word ++ rest))) word ≡ t → behind word (bs ++ (word ++ rest)) ≢ None → ⊥
    by_test true is go =
        let clash : Some (drop (length word) (b ∷ (bs ++ (word ++ rest)))) ≡ None = sym (here word b (bs ++ (word ++ rest)) is) ∙ none in absurd (cc)
    by_test false is go = go (sym (later word b (bs ++ (word ++ rest)) is) ∙ none)

pub none_found : (word text : List ℕ) → (HasSubslice text word → ⊥) → behind word text ≡ None
none_found word text nowhere = by_search (behind word text) refl
  where
    by_search : (o : Option (List ℕ)) → behind word text ≡ o → behind word text ≡ None
    by_search None is = is
    by_search (Some rest) is = let found = found_is word text rest is in absurd (nowhere (found.before, rest, found.whole))

pub finds_none : FindsNone
finds_none word text some =
    (λ none stands. none_stands stands.0 word stands.1 some (ap (behind word) (sym stands.2) ∙ none), none_found word text)
