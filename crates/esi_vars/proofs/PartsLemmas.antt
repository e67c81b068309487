-- The search for references, and the parts that it finds.
use Rattle.std.proofs.Common.{◌≡◌, ◌⊎◌, inl, inr, ℕ, zero, suc, ◌+◌, ◌-◌, ◌<◌, ◌≤◌, ◌==◌, Bool, true, false, cond, nat_lt, codes, List, [], ◌∷◌, ◌++◌, length, take, drop, slice_range, get_or, subst, Option, Some, None, refl, sym, ◌∙◌, ap, append_assoc, arith}
use Rattle.std.specs.List.{position, position_or_len}
use Rattle.std.proofs.lemmas.Bool.{ltb-true, ltb-false, eqb-false, cases_lt}
use Rattle.std.proofs.lemmas.List.{drop_more, drop_all, drop_at, take_at, take_all, length-append, length-drop, append-nil, drop-drop, get_or_at, get_or-drop}
use Rattle.std.proofs.lemmas.List.Sums.{fails_before_first}
use Rattle.std.proofs.lemmas.Option.{same_Some}
use Rattle.esi_vars.specs.declared.reference.Reference.{Reference}
use Rattle.esi_vars.specs.declared.part.Part.{Part}
use Rattle.esi_vars.specs.declared.part.Part.TheVariants as part
use Rattle.esi_vars.specs.Reading.{Written, reference_of, written_at, reference_at}
use Rattle.esi_vars.specs.Parts.{Found, with_before, found_or, next_reference, places_past, places_of, with_text, joined, parts_of, text_part}
use Rattle.esi_vars.proofs.Sound.{written_sound}

with_before_none : (o : Option Found) → o ≡ with_before [] o
with_before_none None = refl
with_before_none (Some found) = refl

with_before_first : (b : ℕ) (bytes : List ℕ) (o : Option Found) → with_before (b ∷ []) (with_before bytes o) ≡ with_before (b ∷ bytes) o
with_before_first b bytes None = refl
with_before_first b bytes (Some found) = refl

with_before_twice : (xs ys : List ℕ) (o : Option Found) → with_before xs (with_before ys o) ≡ with_before (xs ++ ys) o
with_before_twice xs ys None = refl
with_before_twice xs ys (Some found) =
    ap (λ (before : List ℕ). Some (record { before = before; written = found.written; rest = found.rest })) (sym (append_assoc xs ys found.before))

-- no reference begins within the first n bytes
abbrev pub NoneWithin : ℕ → List ℕ → Type 0
NoneWithin n text = (k : ℕ) → k < n → written_at (drop k text) ≡ None

-- bytes at which no reference begins stand before the next one
pub next_past : (n : ℕ) (text : List ℕ) → n ≤ length text → NoneWithin n text → next_reference text ≡ with_before (take n text) (next_reference (drop n text))
unfolding next_reference
next_past zero text within none = with_before_none (next_reference text)
next_past (suc n) [] within none = absurd (omega arith)
next_past (suc n) (b ∷ bs) within none =
    let here : written_at (b ∷ bs) ≡ None = none 0 (omega arith) in
    let later : NoneWithin n bs = λ k h. none (suc k) (omega arith) in
    let rest = next_past n bs (omega arith) later in
    rw (here, rest) (with_before_first b (take n bs) (next_reference (drop n bs)))

written_at-other : (b : ℕ) (bs : List ℕ) → (b == 36) ≡ false → written_at (b ∷ bs) ≡ None
written_at-other b [] other = refl
written_at-other b (c ∷ cs) other = rw other refl

-- no reference begins before the first `$`
none_before : (text : List ℕ) (k : ℕ) → k < position_or_len (λ b. b == 36) text → k < length text → written_at (drop k text) ≡ None
none_before text k before within =
    ap written_at (drop_more text k 0 within) ∙ written_at-other (get_or text k 0) (drop (k + 1) text) (fails_before_first (λ b. b == 36) text k 0 before)

-- one turn of the search: bytes before a `$`, and the `$` itself, at which no reference begins
pub next_over : (text : List ℕ) (n : ℕ) → n ≡ position_or_len (λ b. b == 36) text → n < length text → written_at (drop n text) ≡ None
    → next_reference text ≡ with_before (take (n + 1) text) (next_reference (drop (n + 1) text))
next_over text n is within here = next_past (n + 1) text (omega arith) (λ k h. by_place k h (cases_lt k n))
  where
    by_place : (k : ℕ) → k < n + 1 → (k < n) ⊎ (n ≤ k) → written_at (drop k text) ≡ None
    by_place k h (inl before) = none_before text k (omega arith) (omega arith)
    by_place k h (inr from) = let at : k ≡ n = omega arith in ap (λ i. written_at (drop i text)) at ∙ here

-- the last turn: no `$` is left
pub next_none : (text : List ℕ) → None ≡ position (λ b. b == 36) text → next_reference text ≡ None
unfolding next_reference
next_none text none = by_test (nat_lt (position_or_len (λ b. b == 36) text) (length text)) refl none
  where
    by_test : (t : Bool) → nat_lt (position_or_len (λ b. b == 36) text) (length text) ≡ t → None ≡ cond t (Some (position_or_len (λ b. b == 36) text)) None → next_reference text ≡ None
    by_test true test e = absurd (cc)
    by_test false test e =
        let all : length text ≤ position_or_len (λ (b : ℕ). b == 36) text = ltb-false _ _ test in
        let past = next_past (length text) text (omega arith) (λ k h. none_before text k (omega arith) h) in
        past ∙ ap (λ t. with_before (take (length text) text) (next_reference t)) (drop_all (length text) text (omega arith))

-- where a place is found, it is the first
pub position_some : (text : List ℕ) (n : ℕ) → Some n ≡ position (λ b. b == 36) text → (n ≡ position_or_len (λ b. b == 36) text) × (n < length text)
position_some text n e = by_test (nat_lt (position_or_len (λ b. b == 36) text) (length text)) refl e
  where
    by_test : (t : Bool) → nat_lt (position_or_len (λ b. b == 36) text) (length text) ≡ t → Some n ≡ cond t (Some (position_or_len (λ b. b == 36) text)) None → (n ≡ position_or_len (λ b. b == 36) text) × (n < length text)
    by_test true test e =
        let same = same_Some n (position_or_len (λ b. b == 36) text) e in
        (same, rw same (ltb-true _ _ test))
    by_test false test e = absurd (cc)

take_add : (a n : ℕ) (xs : List ℕ) → take (a + n) xs ≡ take a xs ++ take n (drop a xs)
take_add zero n xs = let e : 0 + n ≡ n = omega arith in rw e refl
take_add (suc a) n [] = let e : suc a + n ≡ suc (a + n) = omega arith in rw e (take_none n)
  where
    take_none : (m : ℕ) → ◌≡◌ {A = List ℕ} [] (take m [])
    take_none zero = refl
    take_none (suc m) = refl
take_add (suc a) n (x ∷ xs) = let e : suc a + n ≡ suc (a + n) = omega arith in rw e (ap (λ t. x ∷ t) (take_add a n xs))

-- so far the search has passed over the first bytes
abbrev pub Searched : ℕ → List ℕ → Type 0
Searched at text = next_reference text ≡ with_before (take at text) (next_reference (drop at text))

searched_on : (text : List ℕ) (at n : ℕ) → Searched at text → Searched n (drop at text) → Searched (at + n) text
searched_on text at n before later =
    before ∙ ap (with_before (take at text)) later
    ∙ with_before_twice (take at text) (take n (drop at text)) (next_reference (drop n (drop at text)))
    ∙ rw (← take_add at n text, drop-drop n at text) refl

pub search_starts : (text : List ℕ) → Searched 0 text
search_starts text = with_before_none (next_reference text)

-- the next `$` begins no reference
pub search_goes_on : (text from here : List ℕ) (at n : ℕ) → Searched at text → from ≡ drop at text → here ≡ drop n from → Some n ≡ position (λ b. b == 36) from
    → None ≡ written_at here → Searched (at + (n + 1)) text
search_goes_on text from here at n before cut start found none =
    let first = position_some from n found in
    let over : Searched (n + 1) from = next_over from n first.0 first.1 (ap written_at (sym start) ∙ sym none) in
    searched_on text at (n + 1) before (rw (← cut) over)

next_here : (here : List ℕ) (w : Written) (rest : List ℕ) → 0 < length here → written_at here ≡ Some (w, rest) → next_reference here ≡ Some (record { before = []; written = w; rest = rest })
unfolding next_reference
next_here [] w rest some is = absurd (omega arith)
next_here (b ∷ bs) w rest some is = rw is refl

-- the next `$` begins one
pub search_finds : (text from here : List ℕ) (at n : ℕ) (w : Written) (rest : List ℕ) → Searched at text → from ≡ drop at text → here ≡ drop n from → Some n ≡ position (λ b. b == 36) from
    → Some (w, rest) ≡ written_at here → Some (record { before = take (at + n) text; written = w; rest = rest }) ≡ next_reference text
search_finds text from here at n w rest before cut start found is =
    let first = position_some from n found in
    let over : Searched n from = next_past n from (omega arith) (λ k h. none_before from k (omega (arith, first.0)) (omega (arith, first.1))) in
    let some : 0 < length here = rw start (omega (arith, length-drop n from, first.1)) in
    let all : Searched (at + n) text = searched_on text at n before (rw (← cut) over) in
    let same : drop (at + n) text ≡ here = sym (drop-drop n at text) ∙ ap (drop n) (sym cut) ∙ sym start in
    sym (all ∙ ap (λ t. with_before (take (at + n) text) (next_reference t)) same ∙ ap (with_before (take (at + n) text)) (next_here here w rest some (sym is))
    ∙ ap (λ (before : List ℕ). Some (record { before = before; written = w; rest = rest })) (append-nil (take (at + n) text)))

pub search_fails : (text from : List ℕ) (at : ℕ) → Searched at text → from ≡ drop at text → None ≡ position (λ b. b == 36) from → None ≡ next_reference text
search_fails text from at before cut none =
    let nothing : next_reference (drop at text) ≡ None = ap next_reference (sym cut) ∙ next_none from none in
    sym (before ∙ ap (with_before (take at text)) nothing)

-- what follows a reference is shorter than the text that it begins
pub rest_shorter : (here : List ℕ) (w : Written) (rest : List ℕ) → Some (w, rest) ≡ written_at here → length rest < length here
rest_shorter here w rest is =
    let found = written_sound here w rest (sym is) in
    omega (arith, ap length found.whole, length-append found.piece rest, ap length found.is.whole)

-- a reference ends with `)`
has_close : (text : List ℕ) (w : Written) (rest : List ℕ) → written_at text ≡ Some (w, rest) → (j : ℕ) × (j < length text) × (get_or text j 0 ≡ 41)
has_close text w rest is =
    let found = written_sound text w rest is in
    let front = codes "$(" ++ (found.is.name ++ (found.is.key ++ found.is.default)) in
    by_front front (found.whole ∙ ap (λ t. t ++ rest) found.is.whole ∙ simp append_assoc)
  where
    by_front : (front : List ℕ) → text ≡ front ++ (41 ∷ rest) → (j : ℕ) × (j < length text) × (get_or text j 0 ≡ 41)
    by_front front whole = (length front, omega (arith, ap length whole, length-append front (41 ∷ rest)), rw whole (get_or_at front 41 rest 0 (length front) refl))

-- without a `)` no reference begins anywhere
pub unclosed : (text : List ℕ) → None ≡ position (λ b. b == 41) text → None ≡ next_reference text
unfolding next_reference
unclosed text none = by_test (nat_lt (position_or_len (λ b. b == 41) text) (length text)) refl none
  where
    nowhere : (length text ≤ position_or_len (λ b. b == 41) text) → (k : ℕ) → (o : Option (Written × List ℕ)) → written_at (drop k text) ≡ o → written_at (drop k text) ≡ None
    nowhere all k None is = is
    nowhere all k (Some x) is =
        let close = has_close (drop k text) x.0 x.1 is in
        let within : k + close.0 < length text = omega (arith, length-drop k text, close.1) in
        let here : get_or text (k + close.0) 0 ≡ 41 = sym (get_or-drop k text close.0 0) ∙ close.2 in
        let fails : (get_or text (k + close.0) 0 == 41) ≡ false = fails_before_first (λ b. b == 41) text (k + close.0) 0 (omega arith) in
        absurd (eqb-false _ _ fails here)

    by_test : (t : Bool) → nat_lt (position_or_len (λ b. b == 41) text) (length text) ≡ t → None ≡ cond t (Some (position_or_len (λ b. b == 41) text)) None → None ≡ next_reference text
    by_test true test e = absurd (cc)
    by_test false test e =
        let all : length text ≤ position_or_len (λ (b : ℕ). b == 41) text = ltb-false _ _ test in
        let past = next_past (length text) text (omega arith) (λ k h. nowhere all k (written_at (drop k text)) refl) in
        sym (past ∙ ap (λ t. with_before (take (length text) text) (next_reference t)) (drop_all (length text) text (omega arith)))

-- the parts, by the first reference
abbrev pub parts_by : Option Found → List ℕ → List Part
parts_by None text = text_part text
parts_by (Some found) text = text_part found.before ++ (part.Reference (reference_of found.written) ∷ parts_of found.rest)

pub places_from : (past : ℕ) (bs rest piece : List ℕ) → bs ≡ piece ++ rest → past ≡ length piece → places_past past bs ≡ places_past 0 rest
unfolding places_past
places_from past bs rest [] is e = rw (is, e) refl
places_from past bs rest (x ∷ piece) is e = rw (is, e) (places_from (length piece) (piece ++ rest) rest piece refl refl)

-- behind a reference stand the parts of what follows it
places_behind : (b : ℕ) (bs : List ℕ) (w : Written) (rest : List ℕ) → written_at (b ∷ bs) ≡ Some (w, rest) → places_past (length bs - length rest) bs ≡ places_past 0 rest
places_behind b bs w rest is =
    let found = written_sound (b ∷ bs) w rest is in
    let whole = found.whole ∙ ap (λ t. t ++ rest) found.is.whole in
    by_tail (40 ∷ (found.is.name ++ (found.is.key ++ (found.is.default ++ codes ")")))) (ap (drop 1) whole)
  where
    by_tail : (tail : List ℕ) → bs ≡ tail ++ rest → places_past (length bs - length rest) bs ≡ places_past 0 rest
    by_tail tail split = places_from (length bs - length rest) bs rest tail split (omega (arith, ap length split, length-append tail rest))

with_text_by : (b : ℕ) (bs : List ℕ) (o : Option Found) → with_text (b ∷ []) (parts_by o bs) ≡ parts_by (with_before (b ∷ []) o) (b ∷ bs)
with_text_by b [] None = refl
with_text_by b (c ∷ cs) None = refl
with_text_by b bs (Some found) = by_before found.before
  where
    by_before : (before : List ℕ) → with_text (b ∷ []) (text_part before ++ (part.Reference (reference_of found.written) ∷ parts_of found.rest)) ≡ part.Text (b ∷ before) ∷ (part.Reference (reference_of found.written) ∷ parts_of found.rest)
    by_before [] = refl
    by_before (c ∷ cs) = refl

pub parts_next : (text : List ℕ) → parts_of text ≡ parts_by (next_reference text) text
unfolding parts_of places_of joined next_reference places_past reference_at
parts_next [] = refl
parts_next (b ∷ bs) = by_reading (parts_next bs) (written_at (b ∷ bs)) refl
  where
    by_reading : parts_of bs ≡ parts_by (next_reference bs) bs → (o : Option (Written × List ℕ)) → written_at (b ∷ bs) ≡ o → parts_of (b ∷ bs) ≡ parts_by (next_reference (b ∷ bs)) (b ∷ bs)
    by_reading later None is = rw is (ap (with_text (b ∷ [])) later ∙ with_text_by b bs (next_reference bs))
    by_reading later (Some x) is = rw is (ap (λ ps. part.Reference (reference_of x.0) ∷ joined ps) (places_behind b bs x.0 x.1 is))

-- a reference that is found stands in the text, between what is before it and the rest
pub record Stands (text before rest : List ℕ) : Type 0 where
  pub piece : List ℕ
  pub whole : text ≡ before ++ (piece ++ rest)

stands_later : (b : ℕ) (bs : List ℕ) (o : Option Found) (f : Found) → ((g : Found) → o ≡ Some g → Stands bs g.before g.rest) → with_before (b ∷ []) o ≡ Some f → Stands (b ∷ bs) f.before f.rest
stands_later b bs None f later is = absurd (cc)
stands_later b bs (Some g) f later is =
    let stands = later g refl in
    let same : record { before = b ∷ g.before; written = g.written; rest = g.rest } ≡ f = same_Some _ _ is in
    subst (λ (x : Found). Stands (b ∷ bs) x.before x.rest) same (record { piece = stands.piece; whole = ap (λ t. b ∷ t) stands.whole })

pub next_stands : (text : List ℕ) (f : Found) → next_reference text ≡ Some f → Stands text f.before f.rest
unfolding next_reference
next_stands [] f is = absurd (cc)
next_stands (b ∷ bs) f is = by_reading (λ g later. next_stands bs g later) (written_at (b ∷ bs)) refl is
  where
    by_reading : ((g : Found) → next_reference bs ≡ Some g → Stands bs g.before g.rest) → (o : Option (Written × List ℕ)) → written_at (b ∷ bs) ≡ o
        → found_or o (with_before (b ∷ []) (next_reference bs)) ≡ Some f → Stands (b ∷ bs) f.before f.rest
    by_reading later None none is = stands_later b bs (next_reference bs) f later is
    by_reading later (Some x) here is =
        let found = written_sound (b ∷ bs) x.0 x.1 here in
        let same : record { before = []; written = x.0; rest = x.1 } ≡ f = same_Some _ _ is in
        subst (λ (y : Found). Stands (b ∷ bs) y.before y.rest) same (record { piece = found.piece; whole = found.whole })

-- where a found reference's text and rest stand in the whole, of which the first bytes are read
pub record Within (at end next len : ℕ) (text before rest : List ℕ) : Type 0 where
  pub order : at + length before ≤ len
  pub shorter : length rest ≤ len
  pub rest_within : length rest + (at + length before) ≤ len
  pub before_is : end ≡ at + length before → slice_range text at end ≡ before
  pub rest_is : next ≡ len - length rest → drop next text ≡ rest

stands_within : (at end next : ℕ) (text left before rest : List ℕ) → at ≤ length text → left ≡ drop at text → Stands left before rest → Within at end next (length text) text before rest
stands_within at end next text left before rest read cut stands =
    let all : length left ≡ length before + (length stands.piece + length rest) = ap length stands.whole ∙ length-append before (stands.piece ++ rest) ∙ ap (λ n. length before + n) (length-append stands.piece rest) in
    let left_length : length left ≡ length text - at = ap length cut ∙ length-drop at text in
    record {
      order = omega (arith, all, left_length);
      shorter = omega (arith, all, left_length);
      rest_within = omega (arith, all, left_length);
      before_is = λ e.
          let n : end - at ≡ length before = omega (arith, e) in
          ap (λ m. take m (drop at text)) n ∙ ap (take (length before)) (sym cut ∙ stands.whole) ∙ take_at before (stands.piece ++ rest) (length before) refl;
      rest_is = λ e.
          let k = length before + length stands.piece in
          let n : next ≡ at + k = omega (arith, e, all, left_length) in
          ap (λ m. drop m text) n ∙ sym (drop-drop k at text)
          ∙ ap (drop k) (sym cut ∙ stands.whole ∙ sym (append_assoc before stands.piece rest)) ∙ drop_at (before ++ stands.piece) rest k (length-append before stands.piece);
    }

pub next_within : (at end next : ℕ) (text left before rest : List ℕ) (w : Written) → at ≤ length text → left ≡ drop at text
    → Some (record { before = before; written = w; rest = rest }) ≡ next_reference left → Within at end next (length text) text before rest
next_within at end next text left before rest w read cut found =
    stands_within at end next text left before rest read cut (next_stands left (record { before = before; written = w; rest = rest }) (sym found))

-- the text behind the last reference
pub rest_of : (text : List ℕ) (at len : ℕ) → len ≡ length text → slice_range text at len ≡ drop at text
rest_of text at len all = take_all (len - at) (drop at text) (omega (arith, all, length-drop at text))

-- a turn of the reading: the text before the next reference, and the reference
pub parts_turn : (ps ps1 ps2 : List Part) (text left before rest : List ℕ) (w : Written) (r : Reference) → ps1 ≡ ps ++ text_part before → ps2 ≡ ps1 ++ (part.Reference r ∷ []) → r ≡ reference_of w
    → Some (record { before = before; written = w; rest = rest }) ≡ next_reference left → ps ++ parts_of left ≡ parts_of text → ps2 ++ parts_of rest ≡ parts_of text
parts_turn ps ps1 ps2 text left before rest w r first second same found so_far =
    let next : parts_of left ≡ text_part before ++ (part.Reference (reference_of w) ∷ parts_of rest) = parts_next left ∙ ap (λ o. parts_by o left) (sym found) in
    rw (second, first, same) (append_assoc (ps ++ text_part before) _ _ ∙ append_assoc ps (text_part before) _) ∙ ap (λ t. ps ++ t) (sym next) ∙ so_far

-- the last turn
pub parts_end : (ps ps1 : List Part) (text left : List ℕ) → ps1 ≡ ps ++ text_part left → None ≡ next_reference left → ps ++ parts_of left ≡ parts_of text → ps1 ≡ parts_of text
parts_end ps ps1 text left last none so_far =
    let next : parts_of left ≡ text_part left = parts_next left ∙ ap (λ o. parts_by o left) (sym none) in
    last ∙ ap (λ t. ps ++ t) (sym next) ∙ so_far
