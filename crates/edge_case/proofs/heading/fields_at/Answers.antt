use Rattle.std.proofs.Common.{◌≡◌, ℕ, ◌+◌, ◌<◌, List, ◌∷◌, length, map, take, drop, get_or, refl, sym, ◌∙◌, ap, Option, arith}
use Rattle.std.proofs.lemmas.List.{length-map, length-set}
use Rattle.std.proofs.lemmas.Option.{slice_get-get_or}
use Rattle.std.specs.Option.{option_copied, option_map}
use Rattle.edge_types.specs.declared.request.RequestField.{RequestField}
use Rattle.edge_types.specs.Request.{request_fields, heading_word}
use Rattle.edge_case.specs.Document.{field_words}
use Rattle.edge_case.specs.Reading.{field_at, fields_at, lent_field, lent_values}
use Rattle.edge_case.proofs.Headings.{with_values, with_none, with_all, words_from, values_to, reads_on, reads_none}
use Rattle.edge_case.proofs.heading.fields_at.Goals as goal

pub loop-i-init : goal.loop-i-init
loop-i-init c = record { reads = with_none _; count = refl }

-- the words that are left begin with the field's
next : (i : ℕ) (d : RequestField) → i < length request_fields → drop i field_words ≡ heading_word (get_or request_fields i d) ∷ drop (i + 1) field_words
next i d within = words_from request_fields i (get_or request_fields i d) (slice_get-get_or request_fields i d within)

pub returns-in_err-value : goal.returns-in_err-value
returns-in_err-value c =
    let i = c.loop-i.i in
    let rest = c.loop-i.rest.now in
    let none = sym (ap (λ (w : List ℕ). field_at w rest) c.heading_word.ensures) ∙ sym c.field_at.ensures ∙ ap (option_map lent_field) c.in_err-value.was in
    ap (option_map lent_values) c.from_residual.ensures
    ∙ reads_none (take i (map option_copied c.loop-i.values)) (drop (i + 1) field_words) (drop i field_words) _ rest (next i _ c.loop-i-test.true) none
    ∙ c.loop-i.invariant.reads

pub loop-i-preserved : goal.loop-i-preserved
loop-i-preserved c =
    let i = c.loop-i.i in
    let rest = c.loop-i.rest.now in
    let values = c.loop-i.values in
    let value = c.in_ok-value.value in
    let after = c.in_ok-value.after.now in
    let within : i < length values = let few = c.loop-i-test.true in let count = c.loop-i.invariant.count in omega arith in
    let read = sym (ap (λ (w : List ℕ). field_at w rest) c.heading_word.ensures) ∙ sym c.field_at.ensures ∙ ap (option_map lent_field) c.in_ok-value.was in
    record {
      reads = ap (λ (vs : List (Option (List ℕ))). with_values vs (fields_at (drop (i + 1) field_words) after)) (values_to option_copied values i value within)
          ∙ reads_on (take i (map option_copied values)) (drop (i + 1) field_words) (drop i field_words) _ rest after (option_copied value) (next i _ c.loop-i-test.true) read
          ∙ c.loop-i.invariant.reads;
      count = length-set values i value ∙ c.loop-i.invariant.count;
    }

pub returns : goal.returns
returns c =
    let last : c.loop-i.i ≡ length field_words = let from = c.loop-i-test.false in let to = c.loop-i.auto.i-end in omega arith in
    sym (with_all (map option_copied c.loop-i.values) c.loop-i.i c.loop-i.rest.now last (length-map c.loop-i.values option_copied ∙ c.loop-i.invariant.count ∙ sym last))
    ∙ c.loop-i.invariant.reads
