-- What is read is spelled so.
use Rattle.std.proofs.Common.{◌≡◌, ℕ, zero, suc, ◌<◌, ◌≤◌, ◌==◌, Bool, true, false, ◌&&◌, cond, List, [], ◌∷◌, ◌++◌, length, take, drop, get_or, length-append, Option, Some, None, Ok, codes, refl, sym, ◌∙◌, ap, subst, append_assoc, arith}
use Rattle.std.specs.List.{AllPass, list_all, prefix_len}
use Rattle.std.specs.Char.{is_ascii_digit}
use Rattle.std.proofs.lemmas.Bool.{eqb-true}
use Rattle.std.proofs.lemmas.List.{take-append-drop, get_or-take}
use Rattle.std.proofs.lemmas.List.Folds.{length-prefix_len}
use Rattle.std.proofs.lemmas.List.Sums.{list_all-from_AllPass, prefix_len_passes}
use Rattle.std.proofs.lemmas.Option.{cond_some, some_pair_parts}
use Rattle.esi_vars.specs.declared.reference.Reference.{Reference}
use Rattle.edge_types.specs.WhiteSpace.{is_ws}
use Rattle.esi_vars.specs.Reading.{after_byte, cut_at, reference_at}
use Rattle.esi_vars.proofs.Sound.{Stands, after_sound, cut_sound}
use Rattle.esi_vars.proofs.Theorems.{reads_references}
use Rattle.esi_expr.specs.declared.expr.Comparison.{Comparison}
use Rattle.esi_expr.specs.declared.expr.Comparison.TheVariants as comparison
use Rattle.esi_expr.specs.declared.expr.Operand.{Operand}
use Rattle.esi_expr.specs.declared.expr.Operand.TheVariants as operand
use Rattle.esi_expr.specs.Tree.{Test, Single, Or, Conj, Sole, And, Neg, Not, Group, Filled, Compared}
use Rattle.esi_expr.specs.Numbers.{is_digit_count, are_digits, is_number}
use Rattle.esi_expr.specs.Reading.{◌>>=◌, Found, after_ws, after_sign, paired, alone, symbol_at, comparison_at, digits_at, referred, quoted, numbered, operand_in, operand_at, operand_or, wanted_at, compared, plain_at, behind, joined_at, conj_with, test_with, closed, nested, neg_at}
use Rattle.esi_expr.specs.Spelling.{Padded, symbol, IsOperand, SpellsOperand, Spells, SpellsConj, SpellsNeg, nesting, conj_nesting, neg_nesting}
use Rattle.esi_expr.proofs.ReadingLemmas.{found_then, ok_parts}

-- a reader that reads what has this fact
abbrev pub IsSound : {A : Type 0} → (A → List ℕ → Type 0) → (List ℕ → Option (A × List ℕ)) → Type 0
IsSound {A} P f = (text : List ℕ) (found : A) (rest : List ℕ) → f text ≡ Some (found, rest) → Stands (P found) text rest

-- the same of a reader that says where it stops
abbrev pub FindsSound : {A : Type 0} → (A → List ℕ → Type 0) → (List ℕ → Found A) → Type 0
FindsSound {A} P f = (text : List ℕ) (found : A) (rest : List ℕ) → f text ≡ Ok (found, rest) → Stands (P found) text rest

-- the same fact of what is equal
pub same_stands : {A : Type 0} (P : A → List ℕ → Type 0) (text : List ℕ) (a b : A) (rest after : List ℕ) → (a ≡ b) × (rest ≡ after) → Stands (P a) text rest → Stands (P b) text after
same_stands P text a b rest after same s = rw (← same.0, ← same.1) s

pub more-pass : (p : ℕ → Bool) (x : ℕ) (xs : List ℕ) → p x ≡ true → AllPass p xs → AllPass p (x ∷ xs)
more-pass p x xs here later = λ k d h. by_index k d h
  where
    by_index : (k : ℕ) (d : ℕ) → k < length (x ∷ xs) → p (get_or (x ∷ xs) k d) ≡ true
    by_index zero d h = here
    by_index (suc k) d h = later k d (omega arith)

-- the white space at the front
pub white_at : (text : List ℕ) → (ws : List ℕ) × AllPass is_ws ws × (text ≡ ws ++ after_ws text)
white_at [] = ([], λ k d h. absurd (omega arith), refl)
white_at (b ∷ bs) = by_test (is_ws b) refl (white_at bs)
  where
    by_test : (t : Bool) → is_ws b ≡ t → (ws : List ℕ) × AllPass is_ws ws × (bs ≡ ws ++ after_ws bs)
        → (ws : List ℕ) × AllPass is_ws ws × (b ∷ bs ≡ ws ++ cond t (after_ws bs) (b ∷ bs))
    by_test true e (ws, all, whole) = (b ∷ ws, more-pass is_ws b ws e all, ap (λ (t : List ℕ). b ∷ t) whole)
    by_test false e later = ([], λ k d h. absurd (omega arith), refl)

-- bytes behind the white space, padded
padded_at : (text bytes rest : List ℕ) → after_ws text ≡ bytes ++ rest → Stands (Padded bytes) text rest
padded_at text bytes rest e =
    let (ws, all, whole) = white_at text in
    record { piece = ws ++ bytes; is = (ws, all, refl); whole = whole ∙ (ap (λ (t : List ℕ). ws ++ t) e ∙ sym (append_assoc ws bytes rest)) }

pub sign_sound : (sign : ℕ) (text rest : List ℕ) → after_sign sign text ≡ Some rest → Stands (Padded (sign ∷ [])) text rest
unfolding after_sign
sign_sound sign text rest e = padded_at text (sign ∷ []) rest (after_sound sign (after_ws text) rest e)

paired_sound : (b : ℕ) (bs : List ℕ) (found : Comparison) (rest : List ℕ) → paired b bs ≡ Some (found, rest) → b ∷ (61 ∷ bs) ≡ symbol found ++ rest
paired_sound b bs found rest e = by_tests (b == 61) (b == 33) (b == 60) (b == 62) refl refl refl refl e
  where
    by_tests : (s t u v : Bool) → (b == 61) ≡ s → (b == 33) ≡ t → (b == 60) ≡ u → (b == 62) ≡ v
        → cond {A = Option (Comparison × List ℕ)} s (Some (comparison.EqualTo, bs)) (cond t (Some (comparison.Unequal, bs)) (cond u (Some (comparison.AtMost, bs)) (cond v (Some (comparison.AtLeast, bs)) None))) ≡ Some (found, rest)
        → b ∷ (61 ∷ bs) ≡ symbol found ++ rest
    by_tests true t u v p q r s e = let same = some_pair_parts comparison.EqualTo found bs rest e in rw (← same.0, ← same.1, eqb-true b 61 p) refl
    by_tests false true u v p q r s e = let same = some_pair_parts comparison.Unequal found bs rest e in rw (← same.0, ← same.1, eqb-true b 33 q) refl
    by_tests false false true v p q r s e = let same = some_pair_parts comparison.AtMost found bs rest e in rw (← same.0, ← same.1, eqb-true b 60 r) refl
    by_tests false false false true p q r s e = let same = some_pair_parts comparison.AtLeast found bs rest e in rw (← same.0, ← same.1, eqb-true b 62 s) refl
    by_tests false false false false p q r s e = absurd (cc)

alone_sound : (b : ℕ) (bs : List ℕ) (found : Comparison) (rest : List ℕ) → alone b bs ≡ Some (found, rest) → b ∷ bs ≡ symbol found ++ rest
alone_sound b bs found rest e = by_tests (b == 60) (b == 62) refl refl e
  where
    by_tests : (s t : Bool) → (b == 60) ≡ s → (b == 62) ≡ t → cond {A = Option (Comparison × List ℕ)} s (Some (comparison.Below, bs)) (cond t (Some (comparison.Above, bs)) None) ≡ Some (found, rest)
        → b ∷ bs ≡ symbol found ++ rest
    by_tests true t p q e = let same = some_pair_parts comparison.Below found bs rest e in rw (← same.0, ← same.1, eqb-true b 60 p) refl
    by_tests false true p q e = let same = some_pair_parts comparison.Above found bs rest e in rw (← same.0, ← same.1, eqb-true b 62 q) refl
    by_tests false false p q e = absurd (cc)

symbol_sound : (text : List ℕ) (found : Comparison) (rest : List ℕ) → symbol_at text ≡ Some (found, rest) → text ≡ symbol found ++ rest
symbol_sound [] found rest e = absurd (cc)
symbol_sound (b ∷ []) found rest e = alone_sound b [] found rest e
symbol_sound (b ∷ c ∷ cs) found rest e = by_test (c == 61) refl e
  where
    by_test : (t : Bool) → (c == 61) ≡ t → cond t (paired b cs) (alone b (c ∷ cs)) ≡ Some (found, rest) → b ∷ (c ∷ cs) ≡ symbol found ++ rest
    by_test true is e = rw (eqb-true c 61 is) (paired_sound b cs found rest e)
    by_test false is e = alone_sound b (c ∷ cs) found rest e

comparison_sound : IsSound (λ found. Padded (symbol found)) comparison_at
unfolding comparison_at
comparison_sound text found rest e = padded_at text (symbol found) rest (symbol_sound (after_ws text) found rest e)

digits_by : (digits : List ℕ) (n : ℕ) → length digits ≡ n → is_digit_count n ≡ true → list_all is_ascii_digit digits ≡ true → are_digits digits ≡ true
digits_by digits n len count all = rw (len, count, all) refl

digits_sound : IsSound (λ digits piece. (are_digits digits ≡ true) × (piece ≡ digits)) digits_at
unfolding digits_at
digits_sound text digits rest e =
    let n = prefix_len is_ascii_digit text in
    let kept = cond_some (is_digit_count n) (take n text, drop n text) (digits, rest) e in
    let len : length (take n text) ≡ n = length-prefix_len is_ascii_digit text in
    let all : AllPass is_ascii_digit (take n text) = λ k d h.
    let less : k < n = omega (arith, len) in ap is_ascii_digit (get_or-take n text k d less) ∙ prefix_len_passes is_ascii_digit text k d less in
    let are = digits_by (take n text) n len kept.0 (list_all-from_AllPass is_ascii_digit (take n text) all) in
    same_stands (λ (ds : List ℕ) (piece : List ℕ). (are_digits ds ≡ true) × (piece ≡ ds)) text (take n text) digits (drop n text) rest (ap (λ (p : List ℕ × List ℕ). p.0) kept.1, ap (λ (p : List ℕ × List ℕ). p.1) kept.1)
    record { piece = take n text; is = (are, refl); whole = sym (take-append-drop n text) }

not_false : (a : Bool) → (a && false) ≡ true → ⊥
not_false true h = absurd (cc)
not_false false h = absurd (cc)

-- no digits begin with a minus
no_minus : (digits : List ℕ) → are_digits digits ≡ true → is_number digits ≡ true
no_minus [] e = e
no_minus (b ∷ bs) e = by_test (b == 45) refl
  where
    by_test : (t : Bool) → (b == 45) ≡ t → are_digits (cond t bs (b ∷ bs)) ≡ true
    by_test true is = absurd (let minus = eqb-true b 45 is in let bad : are_digits (45 ∷ bs) ≡ true = rw minus at e in not_false (is_digit_count (suc (length bs))) bad)
    by_test false is = e

-- which operand was read
referred_is : (o : Option (Reference × List ℕ)) (found : Operand) (rest : List ℕ) → referred o ≡ Some (found, rest) → (r : Reference) × (o ≡ Some (r, rest)) × (operand.Reference r ≡ found)
referred_is None found rest e = absurd (cc)
referred_is (Some x) found rest e = let same = some_pair_parts (operand.Reference x.0) found x.1 rest e in (x.0, ap (λ (t : List ℕ). Some (x.0, t)) same.1, same.0)

quoted_is : (o : Option (List ℕ × List ℕ)) (found : Operand) (rest : List ℕ) → quoted o ≡ Some (found, rest) → (bytes : List ℕ) × (o ≡ Some (bytes, rest)) × (operand.Quoted bytes ≡ found)
quoted_is None found rest e = absurd (cc)
quoted_is (Some x) found rest e = let same = some_pair_parts (operand.Quoted x.0) found x.1 rest e in (x.0, ap (λ (t : List ℕ). Some (x.0, t)) same.1, same.0)

numbered_is : (sign : List ℕ) (o : Option (List ℕ × List ℕ)) (found : Operand) (rest : List ℕ) → numbered sign o ≡ Some (found, rest) → (digits : List ℕ) × (o ≡ Some (digits, rest)) × (operand.Number (sign ++ digits) ≡ found)
numbered_is sign None found rest e = absurd (cc)
numbered_is sign (Some x) found rest e = let same = some_pair_parts (operand.Number (sign ++ x.0)) found x.1 rest e in (x.0, ap (λ (t : List ℕ). Some (x.0, t)) same.1, same.0)

minus_number : (digits : List ℕ) → are_digits digits ≡ true → is_number (45 ∷ digits) ≡ true
minus_number digits e = e

quoted_text : (b : ℕ) (bs bytes rest : List ℕ) → b ≡ 39 → bs ≡ bytes ++ (39 ∷ rest) → b ∷ bs ≡ (codes "'" ++ (bytes ++ codes "'")) ++ rest
quoted_text b bs bytes rest e f = rw (e, f) (simp append_assoc)

minus_text : (b : ℕ) (bs piece digits rest : List ℕ) → b ≡ 45 → bs ≡ piece ++ rest → piece ≡ digits → b ∷ bs ≡ (45 ∷ digits) ++ rest
minus_text b bs piece digits rest e f g = rw (e, f, g) refl

operand_in_sound : IsSound IsOperand operand_in
operand_in_sound [] found rest e = absurd (cc)
operand_in_sound (b ∷ bs) found rest e = by_tests (b == 36) (b == 39) (b == 45) refl refl refl e
  where
    by_tests : (s t u : Bool) → (b == 36) ≡ s → (b == 39) ≡ t → (b == 45) ≡ u
        → cond s (referred (reference_at (b ∷ bs))) (cond t (quoted (cut_at 39 bs)) (cond u (numbered (codes "-") (digits_at bs)) (numbered [] (digits_at (b ∷ bs))))) ≡ Some (found, rest)
        → Stands (IsOperand found) (b ∷ bs) rest
    by_tests true t u p q r e =
        let (reference, read, same) = referred_is (reference_at (b ∷ bs)) found rest e in
        let (piece, is, whole) = (reads_references (b ∷ bs) rest reference).0 read in
        subst (λ (y : Operand). Stands (IsOperand y) (b ∷ bs) rest) same record { piece = piece; is = is; whole = whole }
    by_tests false true u p q r e =
        let (bytes, read, same) = quoted_is (cut_at 39 bs) found rest e in
        let cut = cut_sound bs bytes rest read in
        subst (λ (y : Operand). Stands (IsOperand y) (b ∷ bs) rest) same record { piece = codes "'" ++ (bytes ++ codes "'"); is = (cut.0, refl); whole = quoted_text b bs bytes rest (eqb-true b 39 q) cut.1 }
    by_tests false false true p q r e =
        let (digits, read, same) = numbered_is (codes "-") (digits_at bs) found rest e in
        let s = digits_sound bs digits rest read in
        subst (λ (y : Operand). Stands (IsOperand y) (b ∷ bs) rest) same record { piece = 45 ∷ digits; is = (minus_number digits s.is.0, refl); whole = minus_text b bs s.piece digits rest (eqb-true b 45 r) s.whole s.is.1 }
    by_tests false false false p q r e =
        let (digits, read, same) = numbered_is [] (digits_at (b ∷ bs)) found rest e in
        let s = digits_sound (b ∷ bs) digits rest read in
        subst (λ (y : Operand). Stands (IsOperand y) (b ∷ bs) rest) same record { piece = digits; is = (no_minus digits s.is.0, refl); whole = s.whole ∙ ap (λ (t : List ℕ). t ++ rest) s.is.1 }

operand_sound : IsSound SpellsOperand operand_at
unfolding operand_at
operand_sound text found rest e =
    let s = operand_in_sound (after_ws text) found rest e in
    let padded = padded_at text s.piece rest s.whole in
    record { piece = padded.piece; is = (s.piece, s.is, padded.is); whole = padded.whole }

wanted_by : (here text rest : List ℕ) (one : Operand) (o : Option (Operand × List ℕ)) → operand_at text ≡ o → operand_or here o ≡ Ok (one, rest) → Stands (SpellsOperand one) text rest
wanted_by here text rest one None is e = absurd (cc)
wanted_by here text rest one (Some x) is e =
    same_stands SpellsOperand text x.0 one x.1 rest (ok_parts x.0 one x.1 rest e) (operand_sound text x.0 x.1 is)

wanted_sound : FindsSound SpellsOperand wanted_at
wanted_sound text found rest e = wanted_by (after_ws text) text rest found (operand_at text) refl e

-- spelled so, with no more `!` and `(` than this round an operand
abbrev pub ShallowNeg : ℕ → Neg → List ℕ → Type 0
ShallowNeg n one piece = SpellsNeg one piece × (neg_nesting one ≤ n)

abbrev pub ShallowConj : ℕ → Conj → List ℕ → Type 0
ShallowConj n one piece = SpellsConj one piece × (conj_nesting one ≤ n)

abbrev pub Shallow : ℕ → Test → List ℕ → Type 0
Shallow n one piece = Spells one piece × (nesting one ≤ n)

-- three pieces, one after another
three : (text mid late rest a b c : List ℕ) → text ≡ a ++ mid → mid ≡ b ++ late → late ≡ c ++ rest → text ≡ (a ++ (b ++ c)) ++ rest
three text mid late rest a b c e f g = rw (e, f, g) (simp append_assoc)

compared_sound : (n : ℕ) (text : List ℕ) (left : Operand) (after : List ℕ) → Stands (SpellsOperand left) text after
    → (o : Option (Comparison × List ℕ)) → comparison_at after ≡ o → (found : Neg) (rest : List ℕ) → compared left after o ≡ Ok (found, rest) → Stands (ShallowNeg n found) text rest
compared_sound n text left after s None is found rest e =
    let same = ok_parts (Filled left) found after rest e in
    same_stands (ShallowNeg n) text (Filled left) found after rest same record { piece = s.piece; is = (s.is, omega arith); whole = s.whole }
compared_sound n text left after s (Some x) is found rest e = found_then _ _ _ e (λ right read made.
    let same = ok_parts (Compared left x.0 right.0) found right.1 rest made in
    let sign = comparison_sound after x.0 x.1 is in
    let last = wanted_sound x.1 right.0 right.1 read in
    same_stands (ShallowNeg n) text (Compared left x.0 right.0) found right.1 rest same record {
      piece = s.piece ++ (sign.piece ++ last.piece);
      is = ((s.piece, sign.piece, last.piece, s.is, sign.is, last.is, refl), omega arith);
      whole = three text after x.1 right.1 s.piece sign.piece last.piece s.whole sign.whole last.whole;
    })

plain_sound : (n : ℕ) → FindsSound (ShallowNeg n) plain_at
unfolding plain_at
plain_sound n text found rest e = found_then _ _ _ e (λ left read more.
    compared_sound n text left.0 left.1 (wanted_sound text left.0 left.1 read) (comparison_at left.1) refl found rest more)

-- one more behind a sign
abbrev Glues : {A B : Type 0} → (A → B → A) → ℕ → (A → List ℕ → Type 0) → (B → List ℕ → Type 0) → Type 0
Glues {A} {B} join sign P Q = (a : A) (b : B) (before mid after : List ℕ) → P a before → Padded (sign ∷ []) mid → Q b after → P (join a b) (before ++ (mid ++ after))

joined_step : {A B : Type 0} (join : A → B → A) (sign : ℕ) (next : List ℕ → Found B) (onward : A → List ℕ → Found A) (P : A → List ℕ → Type 0) (Q : B → List ℕ → Type 0)
    → Glues join sign P Q → FindsSound Q next → (whole : List ℕ)
    → ((a : A) (text : List ℕ) → Stands (P a) whole text → (found : A) (rest : List ℕ) → onward a text ≡ Ok (found, rest) → Stands (P found) whole rest)
    → (a : A) (text : List ℕ) → Stands (P a) whole text → (o : Option (List ℕ)) → after_sign sign text ≡ o
    → (found : A) (rest : List ℕ) → behind o (a, text) (λ r. next r >>= (λ x. onward (join a x.0) x.1)) ≡ Ok (found, rest) → Stands (P found) whole rest
joined_step join sign next onward P Q glue sound whole ih a text s None is found rest e = same_stands P whole a found text rest (ok_parts a found text rest e) s
joined_step join sign next onward P Q glue sound whole ih a text s (Some r) is found rest e = found_then _ _ _ e (λ x read more.
    let mid = sign_sound sign text r is in
    let last = sound r x.0 x.1 read in
    ih (join a x.0) x.1 record {
      piece = s.piece ++ (mid.piece ++ last.piece);
      is = glue a x.0 s.piece mid.piece last.piece s.is mid.is last.is;
      whole = three whole text r x.1 s.piece mid.piece last.piece s.whole mid.whole last.whole;
    } found rest more)

joined_sound : {A B : Type 0} (join : A → B → A) (sign : ℕ) (next : List ℕ → Found B) (P : A → List ℕ → Type 0) (Q : B → List ℕ → Type 0)
    → Glues join sign P Q → FindsSound Q next → (n : ℕ) (whole : List ℕ) (a : A) (text : List ℕ) → Stands (P a) whole text
    → (found : A) (rest : List ℕ) → joined_at join sign next n a text ≡ Ok (found, rest) → Stands (P found) whole rest
unfolding joined_at
joined_sound join sign next P Q glue sound zero whole a text s found rest e = same_stands P whole a found text rest (ok_parts a found text rest e) s
joined_sound join sign next P Q glue sound (suc n) whole a text s found rest e =
    joined_step join sign next (joined_at join sign next n) P Q glue sound whole (joined_sound join sign next P Q glue sound n whole) a text s (after_sign sign text) refl found rest e

and_glues : (n : ℕ) → Glues And 38 (ShallowConj n) (ShallowNeg n)
and_glues n a b before mid after p sign q = ((before, mid, after, p.0, sign, q.0, refl), omega (arith, p.1, q.1))

or_glues : (n : ℕ) → Glues Or 124 (Shallow n) (ShallowConj n)
or_glues n a b before mid after p sign q = ((before, mid, after, p.0, sign, q.0, refl), omega (arith, p.1, q.1))

pub conj_sound : (n : ℕ) (neg : List ℕ → Found Neg) → FindsSound (ShallowNeg n) neg → FindsSound (ShallowConj n) (conj_with neg)
unfolding conj_with
conj_sound n neg sound text found rest e = found_then _ _ _ e (λ x read more.
    let s = sound text x.0 x.1 read in
    joined_sound And 38 neg (ShallowConj n) (ShallowNeg n) (and_glues n) sound (length x.1) text (Sole x.0) x.1 record { piece = s.piece; is = s.is; whole = s.whole } found rest more)

pub test_sound : (n : ℕ) (neg : List ℕ → Found Neg) → FindsSound (ShallowNeg n) neg → FindsSound (Shallow n) (test_with neg)
unfolding test_with
test_sound n neg sound text found rest e = found_then _ _ _ e (λ x read more.
    let s = conj_sound n neg sound text x.0 x.1 read in
    joined_sound Or 124 (conj_with neg) (Shallow n) (ShallowConj n) (or_glues n) (conj_sound n neg sound) (length x.1) text (Single x.0) x.1 record { piece = s.piece; is = s.is; whole = s.whole } found rest more)

two : (text mid rest a b : List ℕ) → text ≡ a ++ mid → mid ≡ b ++ rest → text ≡ (a ++ b) ++ rest
two text mid rest a b e f = rw (e, f) (simp append_assoc)

closed_sound : (n : ℕ) (text r inner_rest here : List ℕ) (inner : Test) → Stands (Padded (codes "(")) text r → Stands (Shallow n inner) r inner_rest
    → (o : Option (List ℕ)) → after_sign 41 inner_rest ≡ o → (found : Neg) (rest : List ℕ) → closed inner here o ≡ Ok (found, rest) → Stands (ShallowNeg (suc n) found) text rest
closed_sound n text r inner_rest here inner first s None is found rest e = absurd (cc)
closed_sound n text r inner_rest here inner first s (Some after) is found rest e =
    let same = ok_parts (Group inner) found after rest e in
    let last = sign_sound 41 inner_rest after is in
    same_stands (ShallowNeg (suc n)) text (Group inner) found after rest same record {
      piece = first.piece ++ (s.piece ++ last.piece);
      is = ((first.piece, s.piece, last.piece, first.is, s.is.0, last.is, refl), omega (arith, s.is.1));
      whole = three text r inner_rest after first.piece s.piece last.piece first.whole s.whole last.whole;
    }

nested_sound : (n : ℕ) (neg : List ℕ → Found Neg) → FindsSound (ShallowNeg n) neg → (text : List ℕ) (o p : Option (List ℕ)) → after_sign 33 text ≡ o → after_sign 40 text ≡ p
    → (found : Neg) (rest : List ℕ) → nested o p text neg ≡ Ok (found, rest) → Stands (ShallowNeg (suc n) found) text rest
nested_sound n neg sound text (Some r) p is open_is found rest e = found_then _ _ _ e (λ x read made.
    let same = ok_parts (Not x.0) found x.1 rest made in
    let sign = sign_sound 33 text r is in
    let s = sound r x.0 x.1 read in
    same_stands (ShallowNeg (suc n)) text (Not x.0) found x.1 rest same record {
      piece = sign.piece ++ s.piece;
      is = ((sign.piece, s.piece, sign.is, s.is.0, refl), omega (arith, s.is.1));
      whole = two text r x.1 sign.piece s.piece sign.whole s.whole;
    })
nested_sound n neg sound text None (Some r) is open_is found rest e = found_then _ _ _ e (λ x read made.
    closed_sound n text r x.1 (after_ws x.1) x.0 (sign_sound 40 text r open_is) (test_sound n neg sound r x.0 x.1 read) (after_sign 41 x.1) refl found rest made)
nested_sound n neg sound text None None is open_is found rest e = plain_sound (suc n) text found rest e

pub neg_sound : (n : ℕ) → FindsSound (ShallowNeg n) (neg_at n)
unfolding neg_at
neg_sound zero text found rest e = plain_sound 0 text found rest e
neg_sound (suc n) text found rest e = nested_sound n (neg_at n) (neg_sound n) text (after_sign 33 text) (after_sign 40 text) refl refl found rest e

-- what follows what was read is no longer than the text
stands_shorter : {P : List ℕ → Type 0} (text rest : List ℕ) → Stands P text rest → length rest ≤ length text
stands_shorter text rest s = omega (arith, ap length s.whole, length-append s.piece rest)

pub neg_shorter : (n : ℕ) (text rest : List ℕ) (found : Neg) → neg_at n text ≡ Ok (found, rest) → length rest ≤ length text
neg_shorter n text rest found e = stands_shorter text rest (neg_sound n text found rest e)

pub conj_shorter : (n : ℕ) (text rest : List ℕ) (found : Conj) → conj_with (neg_at n) text ≡ Ok (found, rest) → length rest ≤ length text
conj_shorter n text rest found e = stands_shorter text rest (conj_sound n (neg_at n) (neg_sound n) text found rest e)
