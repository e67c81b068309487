-- Lines: what is read is written so, and what is written so is read.
use Rattle.std.proofs.Common.{◌≡◌, ◌≢◌, ℕ, true, false, not, List, ◌∷◌, ◌++◌, length, take, drop, refl, sym, ◌∙◌, ap, subst, Option, Some, None, bytes_eq, take-append-drop}
use Rattle.std.proofs.Math.Seq.{take-append_seam, drop-append_seam}
use Rattle.std.proofs.lemmas.List.Elements.{All-from_get_or, All-get_or}
use Rattle.std.proofs.lemmas.Bool.{eq-eqb, ne_eqb, cond-true}
use Rattle.std.proofs.lemmas.Slice.Eq.{bytes_eq-Decides}
use Rattle.std.specs.List.{All}
use Rattle.std.specs.Option.{option_map}
use Rattle.edge_case.specs.Document.{line_feed, line, field, IsValue, IsField}
use Rattle.edge_types.specs.Halves.{around}
use Rattle.edge_types.proofs.HalvesLemmas as halves
use Rattle.edge_case.specs.Reading.{◌>>=◌, after_word, line_at, some_field, field_from, field_at}
use Rattle.edge_case.proofs.Steps.{bound, mapped, guarded, same_value}

pub around_sound : (mark : ℕ) (text v rest : List ℕ) → around mark text ≡ Some (v, rest) → (text ≡ v ++ mark ∷ rest) × All (λ b. b ≢ mark) v
around_sound mark text v rest h =
    let (others, whole) = halves.around_sound mark text v rest h in (
      whole,
      All-from_get_or (λ b. b ≢ mark) v 0 (λ k l e.
          let clash : false ≡ true = ap not (sym (eq-eqb _ _ e)) ∙ others k 0 l in absurd (cc)),
    )

pub around_complete : (mark : ℕ) (v rest : List ℕ) → All (λ b. b ≢ mark) v → around mark (v ++ mark ∷ rest) ≡ Some (v, rest)
around_complete mark v rest none =
    halves.around_again mark v rest (λ k d h. ap not (ne_eqb _ _ (λ e. All-get_or (λ b. b ≢ mark) v k d h none e)))

pub after_word_sound : (word text rest : List ℕ) → after_word word text ≡ Some rest → text ≡ word ++ rest
unfolding after_word
after_word_sound word text rest h =
    let (same, back) = guarded (bytes_eq (take (length word) text) word) (drop (length word) text) rest h in
    after_parts word text rest ((bytes_eq-Decides (take (length word) text) word).0 same) back
  where
    after_parts : (word text rest : List ℕ) → take (length word) text ≡ word → drop (length word) text ≡ rest → text ≡ word ++ rest
    after_parts word text rest front back =
        let joined : take (length word) text ++ drop (length word) text ≡ text = take-append-drop (length word) text in
        sym joined ∙ ap (λ (l : List ℕ). l ++ drop (length word) text) front ∙ ap (λ (l : List ℕ). word ++ l) back

pub after_word_complete : (word rest : List ℕ) → after_word word (word ++ rest) ≡ Some rest
unfolding after_word
after_word_complete word rest =
    let same : bytes_eq (take (length word) (word ++ rest)) word ≡ true = (bytes_eq-Decides (take (length word) (word ++ rest)) word).1 (take-append_seam word rest) in
    cond-true _ _ None same ∙ ap Some (drop-append_seam word rest)

pub line_at_sound : (word text v rest : List ℕ) → line_at word text ≡ Some (v, rest) → (text ≡ line word v rest) × IsValue v
unfolding line_at
line_at_sound word text v rest h =
    let (after, is, found) = bound (after_word word text) (λ value. around line_feed value) (v, rest) h in
    let parts = around_sound line_feed after v rest found in
    (after_word_sound word text after is ∙ ap (λ (t : List ℕ). word ++ t) parts.0, parts.1)

pub line_at_complete : (word v rest : List ℕ) → IsValue v → line_at word (line word v rest) ≡ Some (v, rest)
unfolding line_at
line_at_complete word v rest value =
    ap (λ o. o >>= (λ value. around line_feed value)) (after_word_complete word (v ++ line_feed ∷ rest)) ∙ around_complete line_feed v rest value

field_cases : (word text : List ℕ) (o : Option (List ℕ)) → after_word word text ≡ o → (f : Option (List ℕ)) (rest : List ℕ) → field_from text o ≡ Some (f, rest) → (text ≡ field word f rest) × IsField f
field_cases word text None is f rest h =
    let both : ◌≡◌ {A = Option (List ℕ) × List ℕ} (None, text) (f, rest) = same_value _ _ h in
    let none : None ≡ f = ap (λ (p : Option (List ℕ) × List ℕ). p.0) both in
    let same : text ≡ rest = ap (λ (p : Option (List ℕ) × List ℕ). p.1) both in
    subst (λ (g : Option (List ℕ)). (text ≡ field word g rest) × IsField g) none (same, tt)
field_cases word text (Some value) is f rest h =
    let (l, found, made) = mapped (around line_feed value) some_field (f, rest) h in
    let parts = around_sound line_feed value l.0 l.1 found in
    let some : Some l.0 ≡ f = ap (λ (p : Option (List ℕ) × List ℕ). p.0) made in
    let same : l.1 ≡ rest = ap (λ (p : Option (List ℕ) × List ℕ). p.1) made in
    let whole : text ≡ line word l.0 l.1 = after_word_sound word text value is ∙ ap (λ (t : List ℕ). word ++ t) parts.0 in
    subst (λ (g : Option (List ℕ)). (text ≡ field word g rest) × IsField g) some (whole ∙ ap (λ (t : List ℕ). line word l.0 t) same, parts.1)

pub field_at_sound : (word text : List ℕ) (f : Option (List ℕ)) (rest : List ℕ) → field_at word text ≡ Some (f, rest) → (text ≡ field word f rest) × IsField f
unfolding field_at
field_at_sound word text f rest h = field_cases word text (after_word word text) refl f rest h

pub field_at_complete : (word : List ℕ) (f : Option (List ℕ)) (rest : List ℕ) → IsField f → after_word word rest ≡ None → field_at word (field word f rest) ≡ Some (f, rest)
unfolding field_at
field_at_complete word None rest is lacks = ap (field_from rest) lacks
field_at_complete word (Some v) rest is lacks =
    ap (field_from (line word v rest)) (after_word_complete word (v ++ line_feed ∷ rest)) ∙ ap (option_map some_field) (around_complete line_feed v rest is)

-- a text that begins with other words lacks a word
pub lacks_field : (word other : List ℕ) (f : Option (List ℕ)) (rest : List ℕ) → ((t : List ℕ) → after_word word (other ++ t) ≡ None) → after_word word rest ≡ None → after_word word (field other f rest) ≡ None
lacks_field word other None rest differs lacks = lacks
lacks_field word other (Some v) rest differs lacks = differs (v ++ line_feed ∷ rest)
