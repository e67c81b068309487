-- What is read as an attribute is spelled so, and what is spelled so is read.
use Rattle.std.proofs.Common.{◌≡◌, ℕ, zero, suc, ◌<◌, ◌≤◌, Bool, true, false, not, ◌==◌, ◌&&◌, nat_lt, cond, List, [], ◌∷◌, ◌++◌, length, take, drop, Option, Some, None, refl, sym, ◌∙◌, ap, subst, append_assoc, lt-ltb, codes, arith}
use Rattle.std.specs.List.{AllPass}
use Rattle.std.proofs.lemmas.List.{take-append-drop, drop_at, take_at, length-append, length-take}
use Rattle.esi_scanner.specs.declared.attribute.Attribute.{Attribute}
use Rattle.esi_scanner.specs.Names.{attribute_name_of}
use Rattle.edge_types.specs.WhiteSpace.{is_ws, ws_len, after_ws}
use Rattle.edge_types.specs.Halves.{around}
use Rattle.edge_types.proofs.HalvesLemmas.{around_sound, around_again}
use Rattle.esi_scanner.specs.Bytes.{is_attribute_byte, is_quote, attribute_len, after_bytes, ◌>>=◌}
use Rattle.esi_scanner.specs.Entities.{decoded}
use Rattle.esi_scanner.specs.Tag.{name_at, equals_at, quoted_at, attribute_at, then_attributes, attributes_at}
use Rattle.esi_scanner.specs.Spelling.{SpellsAttribute, SpellsAttributes}
use Rattle.esi_scanner.proofs.RunLemmas.{run-append, run-within, run-pass, stop-at, stop-run, after_ws-append, ws-no_attribute, attribute-no_ws, quote-no_ws, head-pass}
use Rattle.esi_scanner.proofs.ValueLemmas.{some-same, bind-some, after-cut, decoded-spelled, decoded-found}
use Rattle.esi_scanner.proofs.AttributeLemmas.{ahead, attributes-some, attributes-none}

abbrev attribute_of : List ℕ → List ℕ → Attribute
attribute_of name raw = record { name = attribute_name_of name; value = decoded raw }

some_lt : (n : ℕ) → 0 < n → nat_lt 0 n ≡ true
some_lt n h = lt-ltb 0 n h

pub both_parts : (a b : Bool) → (a && b) ≡ true → (a ≡ true) × (b ≡ true)
both_parts true b e = (refl, e)
both_parts false b e = absurd (cc)

lt_some : (n : ℕ) → nat_lt 0 n ≡ true → 0 < n
lt_some zero e = absurd (cc)
lt_some (suc n) e = omega arith

pub if-some : {A : Type 0} (b : Bool) (x y : A) → cond b (Some x) None ≡ Some y → (b ≡ true) × (x ≡ y)
if-some true x y e = (refl, some-same e)
if-some false x y e = absurd (cc)

-- a name stops white space
name-no_ws : (name tail : List ℕ) → 0 < length name → AllPass is_attribute_byte name → ws_len (name ++ tail) ≡ 0
name-no_ws [] tail some all = absurd (omega arith)
name-no_ws (b ∷ name) tail some all = stop-at is_ws b (name ++ tail) (attribute-no_ws b (head-pass is_attribute_byte b name all))

name-spelled : (before name tail : List ℕ) → 0 < length before → AllPass is_ws before → 0 < length name → AllPass is_attribute_byte name → attribute_len tail ≡ 0 → name_at (before ++ (name ++ tail)) ≡ Some (name, tail)
unfolding name_at
name-spelled before name tail some ws name_some all stops =
    let run : ws_len (before ++ (name ++ tail)) ≡ length before = run-append is_ws before (name ++ tail) ws (name-no_ws name tail name_some all) in
    let after : after_ws (before ++ (name ++ tail)) ≡ name ++ tail = after_ws-append before (name ++ tail) ws (name-no_ws name tail name_some all) in
    let len : attribute_len (name ++ tail) ≡ length name = run-append is_attribute_byte name tail all stops in
    rw (after, run, len, some_lt (length before) some, some_lt (length name) name_some, take_at name tail (length name) refl, drop_at name tail (length name) refl) refl

equals-spelled : (left right tail : List ℕ) → AllPass is_ws left → AllPass is_ws right → ws_len tail ≡ 0 → equals_at (left ++ (codes "=" ++ (right ++ tail))) ≡ Some tail
unfolding equals_at
equals-spelled left right tail left_ws right_ws stops =
    rw (after_ws-append left (codes "=" ++ (right ++ tail)) left_ws refl, after_ws-append right tail right_ws stops) refl

quoted-spelled : (quote : ℕ) (raw rest : List ℕ) → is_quote quote ≡ true → AllPass (λ b. not (b == quote)) raw → quoted_at (quote ∷ (raw ++ quote ∷ rest)) ≡ Some (raw, rest)
unfolding quoted_at
quoted-spelled quote raw rest is all =
    rw is (around_again quote raw rest all)

-- the bytes behind a name don't belong to it
behind_name : (left rest : List ℕ) → AllPass is_ws left → attribute_len (left ++ (codes "=" ++ rest)) ≡ 0
behind_name left rest ws = stop-run is_attribute_byte is_ws left (codes "=" ++ rest) ws-no_attribute ws refl

pub attribute-spelled : (piece rest : List ℕ) (a : Attribute) → SpellsAttribute piece a → attribute_at (piece ++ rest) ≡ Some (a, rest)
unfolding attribute_at
attribute-spelled piece rest a s =
    let tail = codes "=" ++ (s.right ++ (s.quote ∷ (s.raw ++ s.quote ∷ rest))) in
    let text : piece ++ rest ≡ s.before ++ (s.name ++ (s.left ++ tail)) = rw s.piece_is (simp append_assoc) in
    let name = name-spelled s.before s.name (s.left ++ tail) s.before_some s.before_ws s.name_some s.name_bytes (behind_name s.left (s.right ++ (s.quote ∷ (s.raw ++ s.quote ∷ rest))) s.left_ws) in
    let equals = equals-spelled s.left s.right (s.quote ∷ (s.raw ++ s.quote ∷ rest)) s.left_ws s.right_ws (stop-at is_ws s.quote (s.raw ++ s.quote ∷ rest) (quote-no_ws s.quote s.quote_is)) in
    let quoted = quoted-spelled s.quote s.raw rest s.quote_is s.no_quote in
    rw (text, name, equals, quoted, decoded-spelled s.raw a.value s.value_is, ← s.name_is) refl

nonempty : (before rest : List ℕ) → 0 < length before → 0 < length (before ++ rest)
nonempty before rest some = omega (arith, length-append before rest)

pub attribute-nonempty : (piece : List ℕ) (a : Attribute) → SpellsAttribute piece a → 0 < length piece
attribute-nonempty piece a s = rw s.piece_is (nonempty s.before _ s.before_some)

pub attributes-fit : (piece : List ℕ) (many : List Attribute) → SpellsAttributes piece many → length many ≤ length piece
attributes-fit piece [] is = omega arith
attributes-fit piece (a ∷ many) (front, rest, cut, first, others) =
    rw cut (omega (arith, length-append front rest, attribute-nonempty front a first, attributes-fit rest many others))

-- the attributes are read, whatever follows that is no attribute
pub attributes-spelled : (n : ℕ) (piece rest : List ℕ) (many : List Attribute) → length many ≤ n → SpellsAttributes piece many → attribute_at rest ≡ None → attributes_at n (piece ++ rest) ≡ (many, rest)
attributes-spelled n piece rest [] fits is none = rw is (attributes-none n rest none)
attributes-spelled zero piece rest (a ∷ many) fits is none = absurd (omega arith)
attributes-spelled (suc n) piece rest (a ∷ many) fits (front, after, cut, first, others) none =
    let text : piece ++ rest ≡ front ++ (after ++ rest) = rw cut (append_assoc front after rest) in
    let later = attributes-spelled n after rest many (omega arith) others none in
    ap (attributes_at (suc n)) text ∙ attributes-some n (front ++ (after ++ rest)) (after ++ rest) a (attribute-spelled front (after ++ rest) a first) ∙ ap (ahead (a ∷ [])) later

-- what is read is spelled so
IsNameAt : List ℕ → List ℕ → List ℕ → Type 0
IsNameAt text name rest =
    (before : List ℕ) × (0 < length before) × AllPass is_ws before × (0 < length name) × AllPass is_attribute_byte name × (text ≡ before ++ (name ++ rest))

pub cut-at : (n : ℕ) (text : List ℕ) → text ≡ take n text ++ drop n text
cut-at n text = sym (take-append-drop n text)

name-found : (text name rest : List ℕ) → name_at text ≡ Some (name, rest) → IsNameAt text name rest
unfolding name_at IsNameAt
name-found text name rest found =
    let after = after_ws text in
    let n = attribute_len after in
    let (tests, same) = if-some (nat_lt 0 (ws_len text) && nat_lt 0 n) (take n after, drop n after) (name, rest) found in
    let some = both_parts (nat_lt 0 (ws_len text)) (nat_lt 0 n) tests in
    let name_is : take n after ≡ name = ap (λ (p : List ℕ × List ℕ). p.0) same in
    let rest_is : drop n after ≡ rest = ap (λ (p : List ℕ × List ℕ). p.1) same in
    let name_len : length name ≡ n = ap length (sym name_is) ∙ length-take n after ∙ (let within = run-within is_attribute_byte after in omega arith) in (
      take (ws_len text) text,
      (let within = run-within is_ws text in omega (arith, length-take (ws_len text) text, lt_some (ws_len text) some.0)),
      run-pass is_ws text,
      omega (arith, lt_some n some.1),
      rw (← name_is) (run-pass is_attribute_byte after),
      cut-at (ws_len text) text ∙ ap (λ xs. take (ws_len text) text ++ xs) (cut-at n after ∙ rw (name_is, rest_is) refl),
    )

IsEqualsAt : List ℕ → List ℕ → Type 0
IsEqualsAt text rest =
    (left : List ℕ) × (right : List ℕ) × AllPass is_ws left × AllPass is_ws right × (text ≡ left ++ (codes "=" ++ (right ++ rest)))

equals-found : (text rest : List ℕ) → equals_at text ≡ Some rest → IsEqualsAt text rest
unfolding equals_at IsEqualsAt
equals-found text rest found =
    let (after, cut, same) = bind-some (after_bytes (after_ws text) (codes "=")) (λ after. Some (after_ws after)) rest found in
    let mark : after_ws text ≡ codes "=" ++ after = after-cut (after_ws text) (codes "=") after cut in
    let right_is : after ≡ take (ws_len after) after ++ rest = cut-at (ws_len after) after ∙ ap (λ xs. take (ws_len after) after ++ xs) (some-same same) in (
      take (ws_len text) text,
      take (ws_len after) after,
      run-pass is_ws text,
      run-pass is_ws after,
      cut-at (ws_len text) text ∙ ap (λ xs. take (ws_len text) text ++ xs) (mark ∙ ap (λ xs. codes "=" ++ xs) right_is),
    )

IsQuotedAt : List ℕ → List ℕ → List ℕ → Type 0
IsQuotedAt text raw rest =
    (q : ℕ) × (is_quote q ≡ true) × AllPass (λ b. not (b == q)) raw × (text ≡ q ∷ (raw ++ q ∷ rest))

pub if-then : {A : Type 0} (b : Bool) (o : Option A) (y : A) → cond b o None ≡ Some y → (b ≡ true) × (o ≡ Some y)
if-then true o y e = (refl, e)
if-then false o y e = absurd (cc)

quoted-found : (text raw rest : List ℕ) → quoted_at text ≡ Some (raw, rest) → IsQuotedAt text raw rest
unfolding quoted_at IsQuotedAt
quoted-found [] raw rest found = absurd (cc)
quoted-found (b ∷ bs) raw rest found =
    let (quote, inner) = if-then (is_quote b) (around b bs) (raw, rest) found in
    let (all, cut) = around_sound b bs raw rest inner in
    (b, quote, all, ap (λ xs. b ∷ xs) cut)

abbrev pub IsAttributeAt : List ℕ → Attribute → List ℕ → Type 0
IsAttributeAt text a rest = (piece : List ℕ) × (text ≡ piece ++ rest) × SpellsAttribute piece a

pub attribute-found : (text : List ℕ) (a : Attribute) (rest : List ℕ) → attribute_at text ≡ Some (a, rest) → IsAttributeAt text a rest
unfolding attribute_at IsNameAt IsEqualsAt IsQuotedAt
attribute-found text a rest found =
    let (name, name_is, more) = bind-some (name_at text) (λ (name : List ℕ × List ℕ). equals_at name.1 >>= λ value. quoted_at value >>= λ quoted. Some (attribute_of name.0 quoted.0, quoted.1)) (a, rest) found in
    let (value, value_is, still) = bind-some (equals_at name.1) (λ value. quoted_at value >>= λ quoted. Some (attribute_of name.0 quoted.0, quoted.1)) (a, rest) more in
    let (quoted, quoted_is, same) = bind-some (quoted_at value) (λ (quoted : List ℕ × List ℕ). Some (attribute_of name.0 quoted.0, quoted.1)) (a, rest) still in
    let (before, before_some, before_ws, name_some, name_bytes, text_is) = name-found text name.0 name.1 name_is in
    let (left, right, left_ws, right_ws, equals_is) = equals-found name.1 value value_is in
    let (q, quote, all, value_cut) = quoted-found value quoted.0 quoted.1 quoted_is in
    let is : attribute_of name.0 quoted.0 ≡ a = ap (λ (p : Attribute × List ℕ). p.0) (some-same same) in
    let rest_is : quoted.1 ≡ rest = ap (λ (p : Attribute × List ℕ). p.1) (some-same same) in
    let piece = before ++ (name.0 ++ (left ++ (codes "=" ++ (right ++ (q ∷ (quoted.0 ++ q ∷ [])))))) in
    let whole : before ++ (name.0 ++ (left ++ (codes "=" ++ (right ++ (q ∷ (quoted.0 ++ q ∷ quoted.1)))))) ≡ piece ++ quoted.1 = simp append_assoc in (
      piece,
      text_is ∙ ap (λ xs. before ++ (name.0 ++ xs)) (equals_is ∙ ap (λ xs. left ++ (codes "=" ++ (right ++ xs))) value_cut) ∙ whole ∙ ap (λ xs. piece ++ xs) rest_is,
      subst (λ (x : Attribute). SpellsAttribute piece x) is (record {
        before = before;
        before_some = before_some;
        before_ws = before_ws;
        name = name.0;
        name_some = name_some;
        name_bytes = name_bytes;
        name_is = refl;
        left = left;
        left_ws = left_ws;
        right = right;
        right_ws = right_ws;
        quote = q;
        quote_is = quote;
        raw = quoted.0;
        no_quote = all;
        value_is = decoded-found quoted.0;
        piece_is = refl;
      }),
    )

abbrev pub AreAttributesAt : List ℕ → List Attribute × List ℕ → Type 0
AreAttributesAt text found = (piece : List ℕ) × (text ≡ piece ++ found.1) × SpellsAttributes piece found.0

pub attributes-found : (n : ℕ) (text : List ℕ) → AreAttributesAt text (attributes_at n text)
unfolding attributes_at
attributes-found zero text = ([], refl, refl)
attributes-found (suc n) text = by_first n text (attribute_at text) refl (λ rest. attributes-found n rest)
  where
    by_first : (n : ℕ) (text : List ℕ) (o : Option (Attribute × List ℕ)) → attribute_at text ≡ o → ((rest : List ℕ) → AreAttributesAt rest (attributes_at n rest)) → AreAttributesAt text (then_attributes (λ rest. attributes_at n rest) text o)
    by_first n text None is later = ([], refl, refl)
    by_first n text (Some (a, rest)) is later =
        let (front, cut, first) = attribute-found text a rest is in
        let (piece, rest_cut, others) = later rest in
        let after = (attributes_at n rest).1 in
        (front ++ piece, cut ∙ ap (λ xs. front ++ xs) rest_cut ∙ sym (append_assoc front piece after), (front, piece, refl, first, others))
