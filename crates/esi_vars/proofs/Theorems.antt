-- The laws of the readings.
use Rattle.std.proofs.Common.{◌≡◌, ℕ, zero, suc, ◌-◌, ◌<◌, List, [], ◌∷◌, ◌++◌, length, drop, Option, Some, None, option_map, refl, sym, ◌∙◌, ap, subst, append_assoc, arith}
use Rattle.std.specs.List.{flat_map}
use Rattle.std.proofs.lemmas.List.{length-append, drop_at}
use Rattle.std.proofs.lemmas.Option.{some_pair_parts}
use Rattle.edge_types.specs.declared.request.Request.{Request}
use Rattle.esi_vars.specs.declared.reference.Reference.{Reference}
use Rattle.esi_vars.specs.declared.part.Part.{Part}
use Rattle.esi_vars.specs.declared.part.Part.TheVariants as part
use Rattle.esi_vars.specs.Reference.{IsReference}
use Rattle.esi_vars.specs.Reading.{Written, reference_of, written_at, reference_at}
use Rattle.esi_vars.specs.Spelling.{BeginsReference, Apart, Spells}
use Rattle.esi_vars.specs.Parts.{places_past, places_of, with_text, joined, parts_of}
use Rattle.esi_vars.specs.Values.{part_value, substituted, text_of}
use Rattle.esi_vars.specs.Laws.{ReadsReferences, PartsSpell, PartsAreOne, SubstitutesText}
use Rattle.esi_vars.proofs.Sound.{written_sound}
use Rattle.esi_vars.proofs.Complete.{reference_again}
use Rattle.esi_vars.proofs.PartsLemmas.{places_from}

-- what is read as a reference is spelled so
reference_sound : (text : List ℕ) (r : Reference) (rest : List ℕ) → reference_at text ≡ Some (r, rest) → (piece : List ℕ) × IsReference piece r × (text ≡ piece ++ rest)
unfolding reference_at
reference_sound text r rest e = by_reading (written_at text) refl e
  where
    by_reading : (o : Option (Written × List ℕ)) → written_at text ≡ o → option_map {U = Reference × List ℕ} (λ w. (reference_of w.0, w.1)) o ≡ Some (r, rest) → (piece : List ℕ) × IsReference piece r × (text ≡ piece ++ rest)
    by_reading None is found = absurd (cc)
    by_reading (Some w) is found =
        let parts = some_pair_parts (reference_of w.0) r w.1 rest found in
        let stands = written_sound text w.0 w.1 is in
        (stands.piece, subst (λ x. IsReference stands.piece x) parts.0 stands.is, stands.whole ∙ ap (λ t. stands.piece ++ t) parts.1)

reference_complete : (text : List ℕ) (r : Reference) (rest : List ℕ) → (piece : List ℕ) × IsReference piece r × (text ≡ piece ++ rest) → reference_at text ≡ Some (r, rest)
reference_complete text r rest (piece, is, whole) = rw whole (reference_again piece r rest is)

pub reads_references : ReadsReferences
reads_references text rest r = (reference_sound text r rest, reference_complete text r rest)

-- no reference is spelled where none is read
none_begins : (text : List ℕ) → reference_at text ≡ None → BeginsReference text → ⊥
none_begins text none (r, piece, rest, is, whole) =
    let read : reference_at text ≡ Some (r, rest) = reference_complete text r rest (piece, is, whole) in
    let clash : None ≡ Some (r, rest) = sym none ∙ read in absurd (cc)

-- a byte at which no reference begins, before parts that spell the rest
spells_byte : (b : ℕ) (bs : List ℕ) (ps : List Part) → reference_at (b ∷ bs) ≡ None → Spells ps bs → Spells (with_text (b ∷ []) ps) (b ∷ bs)
spells_byte b bs [] none is =
    (b ∷ [], [], ap (λ t. b ∷ t) is, (refl, omega arith, λ i h. first i h), tt, refl)
  where
    first : (i : ℕ) → i < 1 → BeginsReference (drop i (b ∷ [])) → ⊥
    first zero h begins = none_begins (b ∷ bs) none (subst (λ t. BeginsReference t) (ap (λ t. b ∷ t) (sym is)) begins)
    first (suc i) h begins = absurd (omega arith)
spells_byte b bs (part.Text bytes ∷ ps) none (piece, rest, whole, (is, some, clear), apart, later) =
    let split : bs ≡ bytes ++ rest = whole ∙ ap (λ t. t ++ rest) is in
    (b ∷ bytes, rest, ap (λ t. b ∷ t) split, (refl, omega arith, λ i h. nowhere split i h), apart, later)
  where
    nowhere : bs ≡ bytes ++ rest → (i : ℕ) → i < suc (length bytes) → BeginsReference (drop i (b ∷ (bytes ++ rest))) → ⊥
    nowhere split zero h begins = none_begins (b ∷ bs) none (subst (λ t. BeginsReference t) (ap (λ t. b ∷ t) (sym split)) begins)
    nowhere split (suc i) h begins = clear i (omega arith) begins
spells_byte b bs (part.Reference r ∷ ps) none is =
    (b ∷ [], bs, refl, (refl, omega arith, λ i h. first i h), tt, is)
  where
    first : (i : ℕ) → i < 1 → BeginsReference (drop i (b ∷ bs)) → ⊥
    first zero h begins = none_begins (b ∷ bs) none begins
    first (suc i) h begins = absurd (omega arith)

drop_none : (n : ℕ) → ◌≡◌ {A = List ℕ} (drop n []) []
drop_none zero = refl
drop_none (suc n) = refl

-- what follows a reference is the rest of the text
rest_is : (b : ℕ) (bs piece rest : List ℕ) (r : Reference) → IsReference piece r → b ∷ bs ≡ piece ++ rest → drop (length bs - length rest) bs ≡ rest
rest_is b bs piece rest r is whole =
    by_tail (40 ∷ (is.name ++ (is.key ++ (is.default ++ 41 ∷ [])))) (ap (drop 1) (whole ∙ ap (λ t. t ++ rest) is.whole))
  where
    by_tail : (tail : List ℕ) → bs ≡ tail ++ rest → drop (length bs - length rest) bs ≡ rest
    by_tail tail split =
        let len : length bs - length rest ≡ length tail = omega (arith, ap length split, length-append tail rest) in
        rw (len, split) (drop_at tail rest (length tail) refl)

places_spell : (past : ℕ) (text : List ℕ) → Spells (joined (places_past past text)) (drop past text)
unfolding joined places_past
places_spell past [] = drop_none past
places_spell (suc past) (b ∷ bs) = places_spell past bs
places_spell zero (b ∷ bs) = by_reading (places_spell 0 bs) (λ n. places_spell n bs) (reference_at (b ∷ bs)) refl
  where
    by_reading : Spells (joined (places_past 0 bs)) bs → ((n : ℕ) → Spells (joined (places_past n bs)) (drop n bs)) → (o : Option (Reference × List ℕ)) → reference_at (b ∷ bs) ≡ o → Spells (joined (places_past 0 (b ∷ bs))) (b ∷ bs)
    by_reading next later None is = rw is (spells_byte b bs (joined (places_past 0 bs)) is next)
    by_reading next later (Some x) is =
        let found = reference_sound (b ∷ bs) x.0 x.1 is in
        let rest = rest_is b bs found.0 x.1 x.0 found.1 found.2 in
        rw is (found.0, x.1, found.2, found.1, tt, subst (λ t. Spells (joined (places_past (length bs - length x.1) bs)) t) rest (later (length bs - length x.1)))

pub parts_spell : PartsSpell
unfolding parts_of places_of
parts_spell text = places_spell 0 text

-- the parts of a text behind a reference
parts_of-reference : (piece rest : List ℕ) (r : Reference) → IsReference piece r → parts_of (piece ++ rest) ≡ part.Reference r ∷ parts_of rest
unfolding parts_of places_of joined places_past
parts_of-reference piece rest r is =
    by_bytes (40 ∷ (is.name ++ (is.key ++ (is.default ++ 41 ∷ [])))) (ap (λ t. t ++ rest) is.whole)
  where
    by_bytes : (tail : List ℕ) → piece ++ rest ≡ 36 ∷ (tail ++ rest) → parts_of (piece ++ rest) ≡ part.Reference r ∷ parts_of rest
    by_bytes tail whole =
        let read : reference_at (36 ∷ (tail ++ rest)) ≡ Some (r, rest) = ap reference_at (sym whole) ∙ reference_again piece r rest is in
        let len : length (tail ++ rest) - length rest ≡ length tail = omega (arith, length-append tail rest) in
        rw (whole, read, len) (ap (λ ps. part.Reference r ∷ joined ps) (places_from (length tail) (tail ++ rest) rest tail refl refl))

none_read : (text : List ℕ) → (BeginsReference text → ⊥) → reference_at text ≡ None
none_read text none = by_reading (reference_at text) refl
  where
    by_reading : (o : Option (Reference × List ℕ)) → reference_at text ≡ o → reference_at text ≡ None
    by_reading None is = is
    by_reading (Some x) is = let found = reference_sound text x.0 x.1 is in absurd (none (x.0, found.0, x.1, found.1, found.2))

with_text_more : (b c : ℕ) (cs : List ℕ) (ps : List Part) → with_text (b ∷ []) (with_text (c ∷ cs) ps) ≡ with_text (b ∷ c ∷ cs) ps
with_text_more b c cs [] = refl
with_text_more b c cs (part.Text bytes ∷ ps) = refl
with_text_more b c cs (part.Reference r ∷ ps) = refl

parts_of-byte : (b : ℕ) (bs : List ℕ) → reference_at (b ∷ bs) ≡ None → parts_of (b ∷ bs) ≡ with_text (b ∷ []) (parts_of bs)
unfolding parts_of places_of joined places_past
parts_of-byte b bs none = rw none refl

-- the parts of a text behind bytes at which no reference begins
parts_of-text : (bytes rest : List ℕ) → 0 < length bytes → ((i : ℕ) → i < length bytes → BeginsReference (drop i (bytes ++ rest)) → ⊥) → parts_of (bytes ++ rest) ≡ with_text bytes (parts_of rest)
parts_of-text [] rest some clear = absurd (omega arith)
parts_of-text (b ∷ []) rest some clear = parts_of-byte b rest (none_read (b ∷ rest) (clear 0 (omega arith)))
parts_of-text (b ∷ c ∷ cs) rest some clear =
    let here = none_read (b ∷ c ∷ (cs ++ rest)) (clear 0 (omega arith)) in
    let later = parts_of-text (c ∷ cs) rest (omega arith) (λ i h. clear (suc i) (omega arith)) in
    parts_of-byte b (c ∷ (cs ++ rest)) here ∙ ap (with_text (b ∷ [])) later ∙ with_text_more b c cs (parts_of rest)

-- text before parts that begin with none stays a part of its own
apart_text : (bytes : List ℕ) (ps : List Part) → Apart (part.Text bytes) ps → part.Text bytes ∷ ps ≡ with_text bytes ps
apart_text bytes [] apart = refl
apart_text bytes (part.Text more ∷ ps) apart = absurd apart
apart_text bytes (part.Reference r ∷ ps) apart = refl

pub parts_are_one : PartsAreOne
unfolding parts_of places_of joined places_past
parts_are_one [] text is = rw is refl
parts_are_one (part.Text bytes ∷ ps) text (piece, rest, whole, (is, some, clear), apart, later) =
    let split : text ≡ bytes ++ rest = whole ∙ ap (λ t. t ++ rest) is in
    apart_text bytes ps apart ∙ ap (with_text bytes) (parts_are_one ps rest later) ∙ sym (ap parts_of split ∙ parts_of-text bytes rest some clear)
parts_are_one (part.Reference r ∷ ps) text (piece, rest, whole, is, apart, later) =
    ap (λ qs. part.Reference r ∷ qs) (parts_are_one ps rest later) ∙ sym (ap parts_of whole ∙ parts_of-reference piece rest r is)

-- joining neighbouring texts changes no value
with_text-value : (request : Request) (bytes : List ℕ) (ps : List Part) → substituted request (with_text bytes ps) ≡ bytes ++ substituted request ps
unfolding substituted
with_text-value request bytes [] = refl
with_text-value request bytes (part.Text more ∷ ps) = append_assoc bytes more (flat_map (part_value request) ps)
with_text-value request bytes (part.Reference r ∷ ps) = refl

joined-value : (request : Request) (ps : List Part) → substituted request (joined ps) ≡ substituted request ps
unfolding substituted joined
joined-value request [] = refl
joined-value request (part.Text bytes ∷ ps) = with_text-value request bytes (joined ps) ∙ ap (λ t. bytes ++ t) (joined-value request ps)
joined-value request (part.Reference r ∷ ps) = ap (λ t. part_value request (part.Reference r) ++ t) (joined-value request ps)

pub substitutes_text : SubstitutesText
unfolding parts_of text_of
substitutes_text request text = joined-value request (places_of text)
