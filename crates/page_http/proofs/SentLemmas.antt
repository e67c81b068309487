-- What is sent of outcomes and answers.
use Rattle.std.proofs.Common.{inl, inr, ℕ, ◌≡◌, ◌≤◌, ◌<◌, ◌+◌, ◌-◌, ◌↔◌, true, false, All, List, [], ◌∷◌, length, map, take, drop, get_or, IsTrue, refl, sym, ap, subst, ◌∙◌, arith}
use Rattle.std.specs.Char.{is_ascii_uppercase, to_ascii_lowercase}
use Rattle.std.specs.List.{list_all, list_any}
use Rattle.std.proofs.lemmas.Bool.{and_parts, ltb-true, not-true, or_parts}
use Rattle.std.proofs.lemmas.Bool.Decides.{nat_tests}
use Rattle.std.proofs.lemmas.List.{take_all}
use Rattle.std.proofs.lemmas.List.Elements.{All-cons, All-tail}
use Rattle.std.proofs.lemmas.List.Sums.{AllPass-from_list_all, get_or-le-sum_by}
use Rattle.http_header.specs.FieldName.{IsHeaderName}
use Rattle.http_header.specs.FieldValue.{FieldValue, plain_value}
use Rattle.http_header.specs.HeaderMap.{Entries, append, append_all}
use Rattle.http_header.specs.Token.{is_token_byte, is_value_byte, lowercase}
use Rattle.edge_types.specs.HeadFields.{IsHeadField, is_field_name, size_of}
use Rattle.edge_types.specs.Token.{is_token}
use Rattle.edge_types.specs.Token.{is_token_byte as tokens_byte}
use Rattle.edge_types.specs.declared.head_fields.HeadField.{HeadField}
use Rattle.page_http.specs.Sent.{IsLine, line_of}
use Rattle.edge_types.specs.declared.outcome.Outcome.TheVariants.{Page, Fault}
use Rattle.page_http.specs.Laws.{CarriesAnswers, TellsOneThing}

pub tells_one_thing : TellsOneThing
tells_one_thing (Page head pieces) one other (inl a) (inl b) = a.1 ∙ sym b.1
tells_one_thing (Page head pieces) one other (inl a) (inr b) = absurd (b.0 a.0)
tells_one_thing (Page head pieces) one other (inr a) (inl b) = absurd (a.0 b.0)
tells_one_thing (Page head pieces) one other (inr a) (inr b) = a.1 ∙ sym b.1
tells_one_thing (Fault fault) one other a b = a ∙ sym b

-- what is printable may stand in a field's value
visible : (b : ℕ) → 32 ≤ b → b ≤ 126 → IsTrue (is_value_byte b)
visible b from to = grind (arith, nat_tests)

-- a byte that is no capital letter is the same in lower case
lower_stays : (b : ℕ) → is_ascii_uppercase b ≡ false → to_ascii_lowercase b ≡ b
lower_stays b small = grind (arith, nat_tests)

-- and so is a text without capital letters
lower_stay : (text : List ℕ) → list_any is_ascii_uppercase text ≡ false → lowercase text ≡ text
lower_stay [] none = refl
lower_stay (b ∷ bs) none =
    let both = or_parts (is_ascii_uppercase b) (list_any is_ascii_uppercase bs) none in
    ap (λ c. c ∷ lowercase bs) (lower_stays b both.0) ∙ ap (λ (cs : List ℕ). b ∷ cs) (lower_stay bs both.1)

-- the bytes of a token are those of a name
token_bytes : (text : List ℕ) → list_all tokens_byte text ≡ true → All (λ b. is_token_byte b ≡ true) text
unfolding is_token_byte tokens_byte
token_bytes text all = AllPass-from_list_all is_token_byte text all

-- the name of a field that an answer may have is one of HTTP
header_name : (name : List ℕ) → length name ≤ 8192 → is_field_name name ≡ true → IsHeaderName name
unfolding is_field_name is_token
header_name name short is =
    let both = and_parts _ _ is in
    let token = and_parts _ _ both.0 in
    ((((ltb-true _ _ token.0), token_bytes name token.1), omega (arith, short)), lower_stay name (not-true _ both.1))

-- and so HTTP carries the field
carried : (fields : List HeadField) → size_of fields ≤ 8192 → All IsHeadField fields → All IsLine fields
carried fields short valid k d within =
    let one = get_or fields k d in
    let size : length one.name + length one.value ≤ size_of fields = get_or-le-sum_by (λ (field : HeadField). length field.name + length field.value) fields k d within in
    record {
      name = header_name one.name (omega (arith, size, short)) (valid k d within).name;
      value = AllPass-from_list_all is_value_byte one.value (valid k d within).value;
    }

pub carries_answers : CarriesAnswers
carries_answers most head body taken = record {
  status_from = taken.head.status_from;
  status_to = taken.head.status_to;
  type_value = λ k d within.
      let printable = taken.head.content_type.printable k d within in
      visible _ printable.0 printable.1;
  lines = carried head.fields taken.head.fields.short taken.head.fields.valid;
}

-- one line more, and one less to be added
pub lines-step : (fields more : Entries FieldValue) (first : HeadField) (lines rest : List HeadField) → 1 ≤ length lines → first ≡ get_or lines 0 first → rest ≡ take (length lines - 1) (drop 1 lines) → IsLine first → more ≡ append fields first.name (plain_value first.value) → (append_all more (map line_of rest) ≡ append_all fields (map line_of lines)) × (All IsLine rest ↔ All IsLine lines)
lines-step fields more first [] rest some is left valid added = absurd (omega arith)
lines-step fields more first (x ∷ xs) rest some is left valid added =
    let all : rest ≡ xs = left ∙ take_all (length (x ∷ xs) - 1) xs (omega arith) in
    let one : more ≡ append fields x.name (plain_value x.value) = added ∙ ap (λ (f : HeadField). append fields f.name (plain_value f.value)) is in (
      ap (λ m. append_all m (map line_of rest)) one ∙ ap (λ (ls : List HeadField). append_all (append fields x.name (plain_value x.value)) (map line_of ls)) all,
      ((λ h. All-cons IsLine x xs (subst IsLine is valid) (subst (All IsLine) all h)), (λ h. subst (All IsLine) (sym all) (All-tail IsLine x xs h))),
    )
