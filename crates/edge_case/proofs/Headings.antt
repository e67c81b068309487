-- The lines before the answers: what is read is written so, and what is written so is read.
use Rattle.std.proofs.Common.{◌≡◌, ℕ, zero, suc, ◌+◌, ◌<◌, Bool, true, false, cond, ◌&&◌, ◌==◌, List, [], ◌∷◌, ◌++◌, length, map, take, drop, get_or, slice_get, slice_set, refl, sym, ◌∙◌, ap, subst, Option, Some, None, unwrap_or, arith, codes, append_assoc, append-nil}
use Rattle.std.proofs.lemmas.Bool.{cond-true, eq-eqb}
use Rattle.std.proofs.lemmas.List.{length-map, take_all, take_more_set, map-set}
use Rattle.std.proofs.lemmas.Option.{slice_get_within, slice_get-map, get_or_from_slice_get}
use Rattle.std.proofs.Math.Seq.{drop-cons}
use Rattle.std.specs.List.{AllByRecursion}
use Rattle.std.specs.Option.{option_map, option_copied}
use Rattle.std.specs.Borrow.{Bor}
use Rattle.edge_types.specs.declared.request.RequestField.{RequestField}
use Rattle.edge_types.specs.Request.{heading_word}
use Rattle.edge_case.specs.Document.{Heading, Entry, Failed, Got, line, field, fields, field_words, heading, entries, IsField, IsHeading}
use Rattle.edge_case.specs.Reading.{◌>>=◌, after_word, line_at, field_at, fields_at, heading_at}
use Rattle.edge_case.proofs.Steps.{bound, same_value}
use Rattle.edge_case.proofs.Lines.{after_word_sound, line_at_sound, line_at_complete, field_at_sound, field_at_complete, lacks_field}

-- ---- what is read is written so

-- the text is the lines of these words with these values, and then the rest
record Fielded (words : List (List ℕ)) (text : List ℕ) (values : List (Option (List ℕ))) (rest : List ℕ) : Type 0 where
  pub whole : text ≡ fields words values rest
  pub count : length values ≡ length words
  pub lines : AllByRecursion IsField values

fields_sound : (words : List (List ℕ)) (text : List ℕ) (values : List (Option (List ℕ))) (rest : List ℕ) → fields_at words text ≡ Some (values, rest) → Fielded words text values rest
fields_sound [] text values rest found =
    let both : ◌≡◌ {A = List (Option (List ℕ)) × List ℕ} ([], text) (values, rest) = same_value _ _ found in
    let none : Fielded [] text [] text = record { whole = refl; count = refl; lines = tt } in
    subst (λ (x : List (Option (List ℕ)) × List ℕ). Fielded [] text x.0 x.1) both none
fields_sound (word ∷ words) text values rest found =
    let (value, read0, f0) = bound (field_at word text) _ (values, rest) found in
    let (others, read1, f1) = bound (fields_at words value.1) _ (values, rest) f0 in
    let both : ◌≡◌ {A = List (Option (List ℕ)) × List ℕ} (value.0 ∷ others.0, others.1) (values, rest) = same_value _ _ f1 in
    let p0 = field_at_sound word text value.0 value.1 read0 in
    let p1 = fields_sound words value.1 others.0 others.1 read1 in
    let made : Fielded (word ∷ words) text (value.0 ∷ others.0) others.1 = record {
      whole = p0.0 ∙ ap (λ t. field word value.0 t) p1.whole;
      count = let count = p1.count in omega arith;
      lines = (p0.1, p1.lines);
    } in
    subst (λ (x : List (Option (List ℕ)) × List ℕ). Fielded (word ∷ words) text x.0 x.1) both made

-- the text is this heading, and then the rest
pub record Headed (text : List ℕ) (h : Heading) (rest : List ℕ) : Type 0 where
  pub whole : text ≡ heading h rest
  pub lines : IsHeading h

pub heading_sound : (text : List ℕ) (h : Heading) (rest : List ℕ) → heading_at text ≡ Some (h, rest) → Headed text h rest
unfolding heading_at
heading_sound text h rest found =
    let (page, read0, f0) = bound (line_at (codes "page ") text) _ (h, rest) found in
    let (values, read1, f1) = bound (fields_at field_words page.1) _ (h, rest) f0 in
    let made : Heading = record { page = page.0; values = values.0 } in
    let both : ◌≡◌ {A = Heading × List ℕ} (made, values.1) (h, rest) = same_value _ _ f1 in
    let p0 = line_at_sound (codes "page ") text page.0 page.1 read0 in
    let p1 = fields_sound field_words page.1 values.0 values.1 read1 in
    let headed : Headed text made values.1 = record {
      whole = p0.0 ∙ ap (λ t. line (codes "page ") page.0 t) p1.whole;
      lines = record { page = p0.1; count = p1.count; values = p1.lines };
    } in
    subst (λ (x : Heading × List ℕ). Headed text x.0 x.1) both headed

-- ---- no word is at the front of another's line

-- two words differ at a place that both have
abbrev apart : List ℕ → List ℕ → Bool
apart [] other = false
apart (a ∷ word) [] = false
apart (a ∷ word) (b ∷ other) = cond (a == b) (apart word other) true

-- a word is apart from each of these
abbrev apart_from : List ℕ → List (List ℕ) → Bool
apart_from word [] = true
apart_from word (other ∷ others) = apart word other && apart_from word others

-- each word is apart from those after it
abbrev apart_each : List (List ℕ) → Bool
apart_each [] = true
apart_each (word ∷ words) = apart_from word words && apart_each words

-- each of these words is apart from another
abbrev all_apart : List (List ℕ) → List ℕ → Bool
all_apart [] other = true
all_apart (word ∷ words) other = apart word other && all_apart words other

both_true : (a b : Bool) → (a && b) ≡ true → (a ≡ true) × (b ≡ true)
both_true true b e = (refl, e)
both_true false b e = absurd (cc)

none_if : (o : Option (List ℕ)) → ((rest : List ℕ) → o ≡ Some rest → ⊥) → o ≡ None
none_if None never = refl
none_if (Some rest) never = absurd (never rest refl)

apart_never : (word other t rest : List ℕ) → apart word other ≡ true → other ++ t ≡ word ++ rest → ⊥
apart_never [] other t rest differ e = cc
apart_never (a ∷ word) [] t rest differ e = cc
apart_never (a ∷ word) (b ∷ other) t rest differ e =
    let first : a ≡ b = cc in
    let others : other ++ t ≡ word ++ rest = cc in
    apart_never word other t rest (sym (cond-true (a == b) (apart word other) true (eq-eqb a b first)) ∙ differ) others

lacks_word : (word other t : List ℕ) → apart word other ≡ true → after_word word (other ++ t) ≡ None
lacks_word word other t differ =
    none_if (after_word word (other ++ t)) (λ rest e. apart_never word other t rest differ (after_word_sound word (other ++ t) rest e))

-- the text begins with none of these words
abbrev Lacks : List (List ℕ) → List ℕ → Type 0
Lacks words text = AllByRecursion (λ word. after_word word text ≡ None) words

all_lack : (words : List (List ℕ)) (other t : List ℕ) → all_apart words other ≡ true → Lacks words (other ++ t)
all_lack [] other t differ = tt
all_lack (word ∷ words) other t differ =
    let (first, others) = both_true (apart word other) (all_apart words other) differ in
    (lacks_word word other t first, all_lack words other t others)

pub entries_lack : (es : List Entry) → Lacks field_words (entries es (codes "end\n"))
entries_lack [] = all_lack field_words (codes "end\n") [] refl
entries_lack (Failed url ∷ es) = all_lack field_words (codes "failed ") _ refl
entries_lack (Got status url content_type control body ∷ es) = all_lack field_words (codes "answer ") _ refl

lacks_fields : (word : List ℕ) (words : List (List ℕ)) (values : List (Option (List ℕ))) (rest : List ℕ) → apart_from word words ≡ true → after_word word rest ≡ None → after_word word (fields words values rest) ≡ None
lacks_fields word [] values rest differ lacks = lacks
lacks_fields word (other ∷ words) [] rest differ lacks = lacks
lacks_fields word (other ∷ words) (value ∷ values) rest differ lacks =
    let (first, others) = both_true (apart word other) (apart_from word words) differ in
    lacks_field word other value (fields words values rest) (λ t. lacks_word word other t first) (lacks_fields word words values rest others lacks)

-- ---- what is written so is read

fields_complete : (words : List (List ℕ)) (values : List (Option (List ℕ))) (rest : List ℕ) → apart_each words ≡ true → length values ≡ length words → AllByRecursion IsField values → Lacks words rest
    → fields_at words (fields words values rest) ≡ Some (values, rest)
fields_complete [] [] rest differ count are lack = refl
fields_complete [] (value ∷ values) rest differ count are lack = absurd (omega arith)
fields_complete (word ∷ words) [] rest differ count are lack = absurd (omega arith)
fields_complete (word ∷ words) (value ∷ values) rest differ count are lack =
    let (first, others) = both_true (apart_from word words) (apart_each words) differ in
    let t : List ℕ = fields words values rest in
    let r0 : field_at word (field word value t) ≡ Some (value, t) = field_at_complete word value t are.0 (lacks_fields word words values rest first lack.0) in
    let r1 : fields_at words t ≡ Some (values, rest) = fields_complete words values rest others (omega arith) are.1 lack.1 in
    rw (r0, r1) refl

pub heading_complete : (h : Heading) (rest : List ℕ) → IsHeading h → Lacks field_words rest → heading_at (heading h rest) ≡ Some (h, rest)
unfolding heading_at
heading_complete h rest is lack =
    let t : List ℕ = fields field_words h.values rest in
    let r0 : line_at (codes "page ") (heading h rest) ≡ Some (h.page, t) = line_at_complete (codes "page ") h.page t is.page in
    let r1 : fields_at field_words t ≡ Some (h.values, rest) = fields_complete field_words h.values rest refl is.count is.values lack in
    rw (r0, r1) refl

-- ---- one line after another

-- the values so far, with those that follow
abbrev pub with_values : List (Option (List ℕ)) → Option (List (Option (List ℕ)) × List ℕ) → Option (List (Option (List ℕ)) × List ℕ)
with_values values found = option_map (λ others. (values ++ others.0, others.1)) found

-- before the first line
pub with_none : (found : Option (List (Option (List ℕ)) × List ℕ)) → with_values [] found ≡ found
with_none None = refl
with_none (Some others) = refl

-- after the last one
pub with_all : (values : List (Option (List ℕ))) (i : ℕ) (rest : List ℕ) → i ≡ length field_words → length values ≡ i → with_values (take i values) (fields_at (drop i field_words) rest) ≡ Some (values, rest)
with_all values i rest last count =
    rw last (ap (λ (vs : List (Option (List ℕ))). Some (vs, rest)) (append-nil (take (length field_words) values) ∙ take_all (length field_words) values (omega arith)))

-- the words from a field's place on
pub words_from : (fields : List RequestField) (i : ℕ) (field : RequestField) → slice_get fields i ≡ Some field → drop i (map heading_word fields) ≡ heading_word field ∷ drop (i + 1) (map heading_word fields)
words_from fields i field there =
    let within : i < length (map heading_word fields) = rw (length-map fields heading_word) (slice_get_within fields i field there) in
    let word : slice_get (map heading_word fields) i ≡ Some (heading_word field) = slice_get-map heading_word fields i ∙ ap (option_map heading_word) there in
    let next : suc i ≡ i + 1 = omega arith in
    drop-cons (map heading_word fields) i [] within
    ∙ ap (λ (w : List ℕ). w ∷ drop (suc i) (map heading_word fields)) (get_or_from_slice_get (map heading_word fields) i (heading_word field) [] word)
    ∙ ap (λ (n : ℕ). heading_word field ∷ drop n (map heading_word fields)) next

-- one more value is kept at its place
pub values_to : {A B : Type 0} (f : A → B) (values : List A) (i : ℕ) (value : A) → i < length values → take (i + 1) (map f (slice_set values i value)) ≡ take i (map f values) ++ f value ∷ []
values_to f values i value within =
    ap (take (i + 1)) (map-set f values i value) ∙ take_more_set (map f values) i (f value) (rw (length-map values f) within)

-- a line was read, and its value kept
pub reads_on : (values : List (Option (List ℕ))) (words left : List (List ℕ)) (word text after : List ℕ) (value : Option (List ℕ)) → left ≡ word ∷ words → field_at word text ≡ Some (value, after)
    → with_values (values ++ value ∷ []) (fields_at words after) ≡ with_values values (fields_at left text)
reads_on values words left word text after value next read = rw (next, read) (with_next (fields_at words after))
  where
    with_next : (found : Option (List (Option (List ℕ)) × List ℕ)) → with_values (values ++ value ∷ []) found ≡ with_values values (found >>= (λ others. Some (value ∷ others.0, others.1)))
    with_next None = refl
    with_next (Some others) = ap (λ (vs : List (Option (List ℕ))). Some (vs, others.1)) (append_assoc values (value ∷ []) others.0)

-- a line isn't whole
pub reads_none : (values : List (Option (List ℕ))) (words left : List (List ℕ)) (word text : List ℕ) → left ≡ word ∷ words → field_at word text ≡ None → None ≡ with_values values (fields_at left text)
reads_none values words left word text next none = rw (next, none) refl

-- ---- the value of a field

-- the value at a place, as the definitions see it
pub value_at : (values : List (Option (Bor (List ℕ)))) (place : ℕ) → unwrap_or (slice_get (map option_copied values) place) None ≡ option_copied (get_or values place None)
value_at [] place = refl
value_at (value ∷ values) zero = refl
value_at (value ∷ values) (suc place) = value_at values place
