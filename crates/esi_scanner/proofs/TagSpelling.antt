-- What is read as a tag is spelled so, and what is spelled so is read.
use Rattle.std.proofs.Common.{◌≡◌, ℕ, zero, suc, ◌+◌, ◌<◌, ◌≤◌, Bool, true, false, ◌&&◌, nat_lt, cond, List, [], ◌∷◌, ◌++◌, length, take, drop, Option, Some, None, refl, sym, ◌∙◌, ap, subst, append_assoc, bytes_eq, codes, arith}
use Rattle.std.specs.List.{AllPass, prefix_len}
use Rattle.std.proofs.lemmas.Slice.Eq.{bytes_eq-Decides}
use Rattle.std.proofs.lemmas.List.{drop_at, take_at, length-append, length-take, length-drop, take-append-le, drop-append-le}
use Rattle.esi_scanner.specs.declared.attribute.Attribute.{Attribute}
use Rattle.esi_scanner.specs.declared.tag.Tag.{Tag}
use Rattle.esi_scanner.specs.declared.element_name.ElementName.{ElementName}
use Rattle.esi_scanner.specs.declared.element_name.ElementName.TheVariants as element
use Rattle.esi_scanner.specs.Names.{element_text, elements, element_of}
use Rattle.edge_types.specs.WhiteSpace.{is_ws, ws_len, after_ws}
use Rattle.esi_scanner.specs.Bytes.{is_element_byte, element_len, attribute_len, after_bytes, begins_with, bytes_before, ◌>>=◌}
use Rattle.esi_scanner.specs.Tag.{name_at, attribute_at, attributes_at, all_distinct, names_of, distinct_attributes_at, end_at, element_at, tag_at, closing_at, removed_len, after_removed}
use Rattle.esi_scanner.specs.Spelling.{SpellsAttributes, end_text, SpellsTag, SpellsClose}
use Rattle.esi_scanner.proofs.RunLemmas.{run-append, run-pass, stop-at, stop-run, after_ws-append, all-from-run, ws-no_element, head-pass}
use Rattle.esi_scanner.proofs.ValueLemmas.{some-same, bind-some, find-pass, begins-cut, after-append, after-cut}
use Rattle.esi_scanner.proofs.AttributeSpelling.{if-some, cut-at, attributes-fit, attributes-spelled, attributes-found, AreAttributesAt}
use Rattle.esi_scanner.proofs.Places.{before-past}

end-ws : (closed : Bool) (rest : List ℕ) → ws_len (end_text closed ++ rest) ≡ 0
end-ws true rest = refl
end-ws false rest = refl

end-element : (closed : Bool) (rest : List ℕ) → element_len (end_text closed ++ rest) ≡ 0
end-element true rest = refl
end-element false rest = refl

end-attribute : (closed : Bool) (rest : List ℕ) → attribute_len (end_text closed ++ rest) ≡ 0
end-attribute true rest = refl
end-attribute false rest = refl

end-spelled : (ws : List ℕ) (closed : Bool) (rest : List ℕ) → AllPass is_ws ws → end_at (ws ++ (end_text closed ++ rest)) ≡ Some (closed, rest)
unfolding end_at
end-spelled ws true rest all = rw (after_ws-append ws (end_text true ++ rest) all (end-ws true rest)) refl
end-spelled ws false rest all = rw (after_ws-append ws (end_text false ++ rest) all (end-ws false rest)) refl

IsEndAt : List ℕ → Bool → List ℕ → Type 0
IsEndAt text closed rest = (ws : List ℕ) × AllPass is_ws ws × (text ≡ ws ++ (end_text closed ++ rest))

end-found : (text : List ℕ) (closed : Bool) (rest : List ℕ) → end_at text ≡ Some (closed, rest) → IsEndAt text closed rest
unfolding end_at IsEndAt
end-found text closed rest found =
    (take (ws_len text) text, run-pass is_ws text, cut-at (ws_len text) text ∙ ap (λ xs. take (ws_len text) text ++ xs) (by_tests (after_ws text) (begins_with (after_ws text) (codes ">")) (begins_with (after_ws text) (codes "/>")) refl refl found))
  where
    by_tests : (after : List ℕ) (short long : Bool) → begins_with after (codes ">") ≡ short → begins_with after (codes "/>") ≡ long → cond {A = Option (Bool × List ℕ)} short (Some (false, drop 1 after)) (cond {A = Option (Bool × List ℕ)} long (Some (true, drop 2 after)) None) ≡ Some (closed, rest) → after ≡ end_text closed ++ rest
    by_tests after true long is other f =
        let same = some-same f in
        begins-cut after (codes ">") is ∙ (let closed_is : false ≡ closed = ap (λ (p : Bool × List ℕ). p.0) same in let rest_is : drop 1 after ≡ rest = ap (λ (p : Bool × List ℕ). p.1) same in rw (← closed_is, ← rest_is) refl)
    by_tests after false true other is f =
        let same = some-same f in
        begins-cut after (codes "/>") is ∙ (let closed_is : true ≡ closed = ap (λ (p : Bool × List ℕ). p.0) same in let rest_is : drop 2 after ≡ rest = ap (λ (p : Bool × List ℕ). p.1) same in rw (← closed_is, ← rest_is) refl)
    by_tests after false false short long f = absurd (cc)

element-run : (name : ElementName) → prefix_len is_element_byte (element_text name) ≡ length (element_text name)
element-run element.Include = refl
element-run element.Inline = refl
element-run element.Choose = refl
element-run element.When = refl
element-run element.Otherwise = refl
element-run element.Try = refl
element-run element.Attempt = refl
element-run element.Except = refl
element-run element.Comment = refl
element-run element.Remove = refl
element-run element.Vars = refl

element-of-text : (name : ElementName) → element_of (element_text name) ≡ Some name
unfolding element_of
element-of-text element.Include = refl
element-of-text element.Inline = refl
element-of-text element.Choose = refl
element-of-text element.When = refl
element-of-text element.Otherwise = refl
element-of-text element.Try = refl
element-of-text element.Attempt = refl
element-of-text element.Except = refl
element-of-text element.Comment = refl
element-of-text element.Remove = refl
element-of-text element.Vars = refl

element-spelled : (name : ElementName) (tail : List ℕ) → element_len tail ≡ 0 → element_at (element_text name ++ tail) ≡ Some (name, tail)
unfolding element_at
element-spelled name tail stops =
    let len : element_len (element_text name ++ tail) ≡ length (element_text name) = run-append is_element_byte (element_text name) tail (all-from-run is_element_byte (element_text name) (element-run name)) stops in
    rw (len, take_at (element_text name) tail (length (element_text name)) refl, drop_at (element_text name) tail (length (element_text name)) refl, element-of-text name) refl

element_of-found : (bytes : List ℕ) (name : ElementName) → element_of bytes ≡ Some name → element_text name ≡ bytes
unfolding element_of
element_of-found bytes name found =
    (bytes_eq-Decides (element_text name) bytes).0 (find-pass (λ name. bytes_eq (element_text name) bytes) elements name found)

element-found : (text : List ℕ) (name : ElementName) (rest : List ℕ) → element_at text ≡ Some (name, rest) → text ≡ element_text name ++ rest
unfolding element_at
element-found text name rest found =
    let n = element_len text in
    let (one, is, same) = bind-some (element_of (take n text)) (λ name. Some (name, drop n text)) (name, rest) found in
    let name_is : one ≡ name = ap (λ (p : ElementName × List ℕ). p.0) (some-same same) in
    let rest_is : drop n text ≡ rest = ap (λ (p : ElementName × List ℕ). p.1) (some-same same) in
    cut-at n text ∙ ap (λ xs. xs ++ drop n text) (sym (element_of-found (take n text) one is)) ∙ ap (λ m. element_text m ++ drop n text) name_is ∙ ap (λ xs. element_text name ++ xs) rest_is

ws-element : (ws rest : List ℕ) → AllPass is_ws ws → element_len rest ≡ 0 → element_len (ws ++ rest) ≡ 0
ws-element ws rest all stops = stop-run is_element_byte is_ws ws rest ws-no_element all stops

some-ws-element : (ws rest : List ℕ) → 0 < length ws → AllPass is_ws ws → element_len (ws ++ rest) ≡ 0
some-ws-element [] rest some all = absurd (omega arith)
some-ws-element (b ∷ ws) rest some all = stop-at is_element_byte b (ws ++ rest) (ws-no_element b (head-pass is_ws b ws all))

-- attributes end an element's name
attributes-element : (piece rest : List ℕ) (many : List Attribute) → SpellsAttributes piece many → element_len rest ≡ 0 → element_len (piece ++ rest) ≡ 0
attributes-element piece rest [] is stops = rw is stops
attributes-element piece rest (a ∷ many) (front, after, cut, first, others) stops =
    let inner = first.name ++ (first.left ++ (codes "=" ++ (first.right ++ (first.quote ∷ (first.raw ++ first.quote ∷ []))))) in
    let whole : piece ++ rest ≡ first.before ++ (inner ++ (after ++ rest)) = rw (cut, first.piece_is) (simp append_assoc) in
    ap element_len whole ∙ some-ws-element first.before (inner ++ (after ++ rest)) first.before_some first.before_ws

and_false : (b : Bool) → (b && false) ≡ false
and_false true = refl
and_false false = refl

-- no attribute stands where a tag ends
end-no_attribute : (ws : List ℕ) (closed : Bool) (rest : List ℕ) → AllPass is_ws ws → attribute_at (ws ++ (end_text closed ++ rest)) ≡ None
unfolding attribute_at name_at
end-no_attribute ws closed rest all =
    rw (after_ws-append ws (end_text closed ++ rest) all (end-ws closed rest), end-attribute closed rest, and_false (nat_lt 0 (ws_len (ws ++ (end_text closed ++ rest))))) refl

distinct-spelled : (piece rest : List ℕ) (many : List Attribute) → SpellsAttributes piece many → all_distinct (names_of many) ≡ true → attribute_at rest ≡ None → distinct_attributes_at (piece ++ rest) ≡ Some (many, rest)
unfolding distinct_attributes_at
distinct-spelled piece rest many is distinct none =
    let fits : length many ≤ length (piece ++ rest) = omega (arith, attributes-fit piece many is, length-append piece rest) in
    rw (attributes-spelled (length (piece ++ rest)) piece rest many fits is none, distinct) refl

distinct-found : (text : List ℕ) (found : List Attribute × List ℕ) → distinct_attributes_at text ≡ Some found → AreAttributesAt text found × (all_distinct (names_of found.0) ≡ true)
unfolding distinct_attributes_at
distinct-found text found is =
    let (distinct, same) = if-some (all_distinct (names_of (attributes_at (length text) text).0)) (attributes_at (length text) text) found is in
    (subst (λ (x : List Attribute × List ℕ). AreAttributesAt text x) same (attributes-found (length text) text), subst (λ (x : List Attribute × List ℕ). all_distinct (names_of x.0) ≡ true) same distinct)

-- the text behind `<esi:` of a tag, and what follows the tag
pub tag-text : (piece : List ℕ) (tag : Tag) (rest : List ℕ) (s : SpellsTag piece tag) → piece ++ rest ≡ codes "<esi:" ++ (element_text tag.name ++ (s.attributes ++ (s.ws ++ (end_text tag.closed ++ rest))))
tag-text piece tag rest s = rw s.piece_is (simp append_assoc)

pub tag-spelled : (piece : List ℕ) (tag : Tag) (rest : List ℕ) (s : SpellsTag piece tag) → tag_at (element_text tag.name ++ (s.attributes ++ (s.ws ++ (end_text tag.closed ++ rest)))) ≡ Some (tag, rest)
unfolding tag_at
tag-spelled piece tag rest s =
    let behind = s.ws ++ (end_text tag.closed ++ rest) in
    let stops : element_len (s.attributes ++ behind) ≡ 0 = attributes-element s.attributes behind tag.attributes s.attributes_are (ws-element s.ws (end_text tag.closed ++ rest) s.ws_is (end-element tag.closed rest)) in
    let name = element-spelled tag.name (s.attributes ++ behind) stops in
    let attributes = distinct-spelled s.attributes behind tag.attributes s.attributes_are s.distinct (end-no_attribute s.ws tag.closed rest s.ws_is) in
    rw (name, attributes, end-spelled s.ws tag.closed rest s.ws_is) refl

abbrev pub IsTagAt : List ℕ → Tag → List ℕ → Type 0
IsTagAt text tag rest = (piece : List ℕ) × (codes "<esi:" ++ text ≡ piece ++ rest) × SpellsTag piece tag

abbrev tag_of : ElementName → List Attribute → Bool → Tag
tag_of name attributes closed = record { name = name; attributes = attributes; closed = closed }

pub tag-found : (text : List ℕ) (tag : Tag) (rest : List ℕ) → tag_at text ≡ Some (tag, rest) → IsTagAt text tag rest
unfolding tag_at IsEndAt
tag-found text tag rest found =
    let (name, name_is, more) = bind-some (element_at text) (λ (name : ElementName × List ℕ). distinct_attributes_at name.1 >>= λ attributes. end_at attributes.1 >>= λ closed. Some (tag_of name.0 attributes.0 closed.0, closed.1)) (tag, rest) found in
    let (attributes, attributes_is, still) = bind-some (distinct_attributes_at name.1) (λ (attributes : List Attribute × List ℕ). end_at attributes.1 >>= λ closed. Some (tag_of name.0 attributes.0 closed.0, closed.1)) (tag, rest) more in
    let (closed, closed_is, same) = bind-some (end_at attributes.1) (λ (closed : Bool × List ℕ). Some (tag_of name.0 attributes.0 closed.0, closed.1)) (tag, rest) still in
    let name_cut = element-found text name.0 name.1 name_is in
    let (spelled, distinct) = distinct-found name.1 attributes attributes_is in
    let (piece, piece_cut, are) = spelled in
    let (ws, ws_is, end_cut) = end-found attributes.1 closed.0 closed.1 closed_is in
    let tag_is : tag_of name.0 attributes.0 closed.0 ≡ tag = ap (λ (p : Tag × List ℕ). p.0) (some-same same) in
    let rest_is : closed.1 ≡ rest = ap (λ (p : Tag × List ℕ). p.1) (some-same same) in
    let all = codes "<esi:" ++ (element_text name.0 ++ (piece ++ (ws ++ end_text closed.0))) in
    let whole : codes "<esi:" ++ (element_text name.0 ++ (piece ++ (ws ++ (end_text closed.0 ++ closed.1)))) ≡ all ++ closed.1 = simp append_assoc in (
      all,
      ap (λ xs. codes "<esi:" ++ xs) (name_cut ∙ ap (λ xs. element_text name.0 ++ xs) (piece_cut ∙ ap (λ xs. piece ++ xs) end_cut)) ∙ whole ∙ ap (λ xs. all ++ xs) rest_is,
      subst (λ (t : Tag). SpellsTag all t) tag_is (record { attributes = piece; attributes_are = are; distinct = distinct; ws = ws; ws_is = ws_is; piece_is = refl }),
    )

pub closing-text : (piece : List ℕ) (name : ElementName) (rest : List ℕ) (s : SpellsClose piece name) → piece ++ rest ≡ codes "</esi:" ++ (element_text name ++ (s.ws ++ (codes ">" ++ rest)))
closing-text piece name rest s = rw s.piece_is (simp append_assoc)

pub closing-spelled : (piece : List ℕ) (name : ElementName) (rest : List ℕ) (s : SpellsClose piece name) → closing_at (element_text name ++ (s.ws ++ (codes ">" ++ rest))) ≡ Some (name, rest)
unfolding closing_at
closing-spelled piece name rest s =
    let name_is = element-spelled name (s.ws ++ (codes ">" ++ rest)) (ws-element s.ws (codes ">" ++ rest) s.ws_is refl) in
    rw (name_is, after_ws-append s.ws (codes ">" ++ rest) s.ws_is refl) refl

abbrev pub IsClosingAt : List ℕ → ElementName → List ℕ → Type 0
IsClosingAt text name rest = (piece : List ℕ) × (codes "</esi:" ++ text ≡ piece ++ rest) × SpellsClose piece name

pub closing-found : (text : List ℕ) (name : ElementName) (rest : List ℕ) → closing_at text ≡ Some (name, rest) → IsClosingAt text name rest
unfolding closing_at
closing-found text name rest found =
    let (one, one_is, more) = bind-some (element_at text) (λ (one : ElementName × List ℕ). after_bytes (after_ws one.1) (codes ">") >>= λ rest. Some (one.0, rest)) (name, rest) found in
    let (after, after_is, same) = bind-some (after_bytes (after_ws one.1) (codes ">")) (λ after. Some (one.0, after)) (name, rest) more in
    let name_is : one.0 ≡ name = ap (λ (p : ElementName × List ℕ). p.0) (some-same same) in
    let rest_is : after ≡ rest = ap (λ (p : ElementName × List ℕ). p.1) (some-same same) in
    let ws = take (ws_len one.1) one.1 in
    let cut : one.1 ≡ ws ++ (codes ">" ++ after) = cut-at (ws_len one.1) one.1 ∙ ap (λ xs. ws ++ xs) (after-cut (after_ws one.1) (codes ">") after after_is) in
    let all = codes "</esi:" ++ (element_text one.0 ++ (ws ++ codes ">")) in
    let whole : codes "</esi:" ++ (element_text one.0 ++ (ws ++ (codes ">" ++ after))) ≡ all ++ after = simp append_assoc in (
      all,
      ap (λ xs. codes "</esi:" ++ xs) (element-found text one.0 one.1 one_is ∙ ap (λ xs. element_text one.0 ++ xs) cut) ∙ whole ∙ ap (λ xs. all ++ xs) rest_is,
      subst (λ (m : ElementName). SpellsClose all m) name_is (record { ws = ws; ws_is = run-pass is_ws one.1; piece_is = refl }),
    )

abbrev remove_end : List ℕ
remove_end = codes "</esi:remove>"

-- what follows the bytes doesn't matter where there are enough of them
begins-longer : (xs rest bytes : List ℕ) → length bytes ≤ length xs → begins_with (xs ++ rest) bytes ≡ begins_with xs bytes
begins-longer xs rest bytes fits = ap (λ ys. bytes_eq bytes ys) (take-append-le (length bytes) xs rest fits)

content-place : (content rest : List ℕ) (i : ℕ) → i < length content → begins_with (drop i (content ++ (remove_end ++ rest))) remove_end ≡ begins_with (drop i (content ++ remove_end)) remove_end
content-place content rest i h =
    let len : length (content ++ remove_end) ≡ length content + 13 = length-append content remove_end in
    let cut : drop i (content ++ (remove_end ++ rest)) ≡ drop i (content ++ remove_end) ++ rest = ap (drop i) (sym (append_assoc content remove_end rest)) ∙ drop-append-le i (content ++ remove_end) rest (omega arith) in
    ap (λ xs. begins_with xs remove_end) cut ∙ begins-longer (drop i (content ++ remove_end)) rest remove_end (omega (arith, length-drop i (content ++ remove_end)))

abbrev pub IsFirstEnd : List ℕ → Type 0
IsFirstEnd content = (i : ℕ) → i < length content → begins_with (drop i (content ++ codes "</esi:remove>")) (codes "</esi:remove>") ≡ false

pub removed-spelled : (content rest : List ℕ) → IsFirstEnd content → after_removed (content ++ (codes "</esi:remove>" ++ rest)) ≡ Some rest
unfolding after_removed removed_len
removed-spelled content rest first =
    let test = λ (xs : List ℕ). begins_with xs remove_end in
    let text = content ++ (remove_end ++ rest) in
    let behind : drop (length content) text ≡ remove_end ++ rest = drop_at content (remove_end ++ rest) (length content) refl in
    let past = before-past test text (length content) (omega (arith, length-append content (remove_end ++ rest))) (λ i h. content-place content rest i h ∙ first i h) in
    let here : bytes_before test (drop (length content) text) ≡ 0 = ap (bytes_before test) behind in
    let len : bytes_before test text ≡ length content = omega (arith, past, here) in
    ap (λ n. after_bytes (drop n text) remove_end) len ∙ ap (λ xs. after_bytes xs remove_end) behind ∙ after-append remove_end rest

-- each place before the first that passes fails
pub before-fail : (test : List ℕ → Bool) (text : List ℕ) (i : ℕ) → i < bytes_before test text → test (drop i text) ≡ false
before-fail test [] i h = absurd (omega arith)
before-fail test (b ∷ bs) i h = by_test (test (b ∷ bs)) refl i h (λ j k. before-fail test bs j k)
  where
    by_test : (t : Bool) → test (b ∷ bs) ≡ t → (i : ℕ) → i < cond t 0 (bytes_before test bs + 1) → ((j : ℕ) → j < bytes_before test bs → test (drop j bs) ≡ false) → test (drop i (b ∷ bs)) ≡ false
    by_test true is i h later = absurd (omega (arith, h))
    by_test false is zero h later = is
    by_test false is (suc i) h later = later i (omega (arith, h))

abbrev pub IsRemovedAt : List ℕ → List ℕ → Type 0
IsRemovedAt text rest = (content : List ℕ) × (text ≡ content ++ (codes "</esi:remove>" ++ rest)) × IsFirstEnd content

pub removed-found : (text rest : List ℕ) → after_removed text ≡ Some rest → IsRemovedAt text rest
unfolding after_removed removed_len
removed-found text rest found =
    let test = λ (xs : List ℕ). begins_with xs remove_end in
    let n = bytes_before test text in
    let content = take n text in
    let cut : text ≡ content ++ (remove_end ++ rest) = cut-at n text ∙ ap (λ xs. content ++ xs) (after-cut (drop n text) remove_end rest found) in
    let short : length content ≤ n = omega (arith, length-take n text) in
    (content, cut, λ i h. sym (content-place content rest i h) ∙ ap (λ xs. begins_with (drop i xs) remove_end) (sym cut) ∙ before-fail test text i (omega arith))
