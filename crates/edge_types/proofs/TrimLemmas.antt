-- A trimmed text is what stands between the blanks at its ends.
use Rattle.std.proofs.Common.{◌≡◌, ℕ, Bool, true, false, ◌&&◌, List, [], ◌∷◌, ◌++◌, reverse, refl, sym, ap, ◌∙◌, subst}
use Rattle.std.specs.List.{list_all}
use Rattle.std.proofs.lemmas.Bool.{and_parts}
use Rattle.std.proofs.lemmas.List.{append-nil, reverse-append, reverse-reverse}
use Rattle.std.proofs.lemmas.List.Folds.{list_all-append}
use Rattle.edge_types.specs.Blanks.{is_blank, AreBlank, skip_blanks, trimmed}
use Rattle.edge_types.specs.Trimming.{IsTrimmed, TrimsTexts}

-- the blanks that are passed over, and what begins with none
record Skipped (text : List ℕ) : Type 0 where
  left : List ℕ
  whole : text ≡ left ++ skip_blanks text
  blank : AreBlank left
  bare : (first : ℕ) (rest : List ℕ) → skip_blanks text ≡ first ∷ rest → is_blank first ≡ false

skipped : (text : List ℕ) → Skipped text
skipped [] = record { left = []; whole = refl; blank = refl; bare = λ first rest e. absurd (cc) }
skipped (b ∷ bs) = by_test (is_blank b) refl (skipped bs)
  where
    by_test : (t : Bool) → is_blank b ≡ t → Skipped bs → Skipped (b ∷ bs)
    by_test true is later = record {
      left = b ∷ later.left;
      whole = rw is (ap (λ (xs : List ℕ). b ∷ xs) later.whole);
      blank = rw is later.blank;
      bare = rw is later.bare;
    }
    by_test false is later = record {
      left = [];
      whole = rw is refl;
      blank = refl;
      bare = rw is (λ first rest e. let same : b ≡ first = cc in ap is_blank (sym same) ∙ is);
    }

-- blanks are passed over, and a text that begins with none stays
pub skip_run : (left text : List ℕ) → AreBlank left → skip_blanks (left ++ text) ≡ skip_blanks text
skip_run [] text all = refl
skip_run (b ∷ bs) text all =
    let both = and_parts (is_blank b) (list_all is_blank bs) all in
    rw both.0 (skip_run bs text both.1)

stays : (text : List ℕ) → ((first : ℕ) (rest : List ℕ) → text ≡ first ∷ rest → is_blank first ≡ false) → skip_blanks text ≡ text
stays [] bare = refl
stays (b ∷ bs) bare = rw (bare b bs refl) refl

each_reversed : (xs : List ℕ) → AreBlank xs → AreBlank (reverse xs)
each_reversed [] all = refl
each_reversed (b ∷ bs) all =
    let both = and_parts (is_blank b) (list_all is_blank bs) all in
    let last : list_all is_blank (b ∷ []) ≡ true = rw both.0 refl in
    ap (list_all is_blank) (reverse-append (b ∷ []) bs) ∙ list_all-append is_blank (reverse bs) (b ∷ [])
    ∙ ap (λ t. t && list_all is_blank (b ∷ [])) (each_reversed bs both.1) ∙ last

is_trimmed : (text : List ℕ) → IsTrimmed text (trimmed text)
unfolding trimmed
is_trimmed text =
    let front = skip_blanks text in
    let before = skipped text in
    let behind = skipped (reverse front) in
    let middle = reverse (skip_blanks (reverse front)) in
    let cut : front ≡ middle ++ reverse behind.left =
    sym (reverse-reverse front) ∙ ap reverse behind.whole ∙ reverse-append behind.left (skip_blanks (reverse front)) in
    record {
      left = before.left;
      right = reverse behind.left;
      whole = before.whole ∙ ap (λ (xs : List ℕ). before.left ++ xs) cut;
      left_blank = before.blank;
      right_blank = each_reversed behind.left behind.blank;
      begins = λ first rest is. before.bare first (rest ++ reverse behind.left) (cut ∙ ap (λ (xs : List ℕ). xs ++ reverse behind.left) is);
      ends = λ front last is. behind.bare last (reverse front) (sym (reverse-reverse _) ∙ ap reverse is ∙ reverse-append front (last ∷ []));
    }

-- what stands between blanks is what trimming leaves
ends_again : (middle right : List ℕ) → AreBlank right → ((front : List ℕ) (last : ℕ) → middle ≡ front ++ last ∷ [] → is_blank last ≡ false) → reverse (skip_blanks (reverse (middle ++ right))) ≡ middle
ends_again middle right all bare =
    ap (λ xs. reverse (skip_blanks xs)) (reverse-append middle right)
    ∙ ap reverse (skip_run (reverse right) (reverse middle) (each_reversed right all) ∙ stays (reverse middle) turned)
    ∙ reverse-reverse middle
  where
    turned : (first : ℕ) (rest : List ℕ) → reverse middle ≡ first ∷ rest → is_blank first ≡ false
    turned first rest is = bare (reverse rest) first (sym (reverse-reverse middle) ∙ ap reverse is ∙ reverse-append (first ∷ []) rest)

trimmed_again : (text middle : List ℕ) → IsTrimmed text middle → trimmed text ≡ middle
unfolding trimmed
trimmed_again text [] is =
    let front : skip_blanks (is.left ++ is.right) ≡ [] = skip_run is.left is.right is.left_blank ∙ ap skip_blanks (sym (append-nil is.right)) ∙ skip_run is.right [] is.right_blank in
    ap (λ xs. reverse (skip_blanks (reverse (skip_blanks xs)))) is.whole ∙ ap (λ xs. reverse (skip_blanks (reverse xs))) front
trimmed_again text (b ∷ bs) is =
    let bare : is_blank b ≡ false = is.begins b bs refl in
    let front : skip_blanks (is.left ++ (b ∷ (bs ++ is.right))) ≡ (b ∷ bs) ++ is.right = skip_run is.left (b ∷ (bs ++ is.right)) is.left_blank ∙ rw bare refl in
    ap (λ xs. reverse (skip_blanks (reverse (skip_blanks xs)))) is.whole
    ∙ ap (λ xs. reverse (skip_blanks (reverse xs))) front
    ∙ ends_again (b ∷ bs) is.right is.right_blank is.ends

pub trims_texts : TrimsTexts
trims_texts text middle = (λ is. subst (λ t. IsTrimmed text t) is (is_trimmed text), trimmed_again text middle)
