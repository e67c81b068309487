-- What is read as a token is spelled so, and what is spelled so is read.
use Rattle.std.proofs.Common.{◌≡◌, ◌≢◌, ◌⊎◌, inl, inr, ℕ, suc, ◌+◌, ◌<◌, ◌≤◌, Bool, true, false, ◌||◌, cond, List, [], ◌∷◌, ◌++◌, length, take, drop, Option, Some, None, refl, sym, ◌∙◌, ap, subst, append_assoc, codes, arith}
use Rattle.std.proofs.lemmas.List.{drop_at, length-append, length-take}
use Rattle.esi_scanner.specs.declared.tag.Tag.{Tag}
use Rattle.esi_scanner.specs.declared.element_name.ElementName.{ElementName}
use Rattle.esi_scanner.specs.declared.element_name.ElementName.TheVariants as element
use Rattle.esi_scanner.specs.declared.token.Kind.{Kind}
use Rattle.esi_scanner.specs.declared.token.Kind.TheVariants as kinds
use Rattle.esi_scanner.specs.Bytes.{begins_ws, begins_with, bytes_before}
use Rattle.esi_scanner.specs.Tag.{tag_at, closing_at, after_removed}
use Rattle.esi_scanner.specs.Scan.{begins_opener, begins_mark, is_remove, removed, opened, open_at, close_at, mark_at, text_at, mark_or_text, token_at}
use Rattle.esi_scanner.specs.Spelling.{SpellsTag, SpellsClose, SpellsClosedRemove, SpellsRemove, NoOpener, IsSpelling, is_text}
use Rattle.esi_scanner.proofs.ValueLemmas.{some-same, bind-some, begins-cut}
use Rattle.esi_scanner.proofs.AttributeSpelling.{if-then, cut-at, both_parts}
use Rattle.esi_scanner.proofs.TagSpelling.{tag-text, tag-spelled, tag-found, closing-text, closing-spelled, closing-found, removed-spelled, removed-found, before-fail}
use Rattle.esi_scanner.proofs.Places.{before-past, before-fails}

or_parts : (a b : Bool) → (a || b) ≡ false → (a ≡ false) × (b ≡ false)
or_parts true b e = absurd (cc)
or_parts false b e = (refl, e)

or_true : (b : Bool) → (b || true) ≡ true
or_true true = refl
or_true false = refl

-- where no opener stands, neither a tag nor a mark does
abbrev NoneAt : Bool → List ℕ → Type 0
NoneAt block text = (begins_with text (codes "<esi:") ≡ false) × (begins_with text (codes "</esi:") ≡ false) × (begins_mark block text ≡ false)

none-at : (block : Bool) (text : List ℕ) → begins_opener block text ≡ false → NoneAt block text
none-at block text e =
    let outer = or_parts (begins_with text (codes "<esi:") || begins_with text (codes "</esi:")) (begins_mark block text) e in
    let inner = or_parts (begins_with text (codes "<esi:")) (begins_with text (codes "</esi:")) outer.0 in
    (inner.0, inner.1, outer.1)

no-mark-at : (block : Bool) (text : List ℕ) → begins_mark block text ≡ false → mark_at block text ≡ None
unfolding mark_at
no-mark-at true text e = rw e refl
no-mark-at false text e = rw e refl

text-token : (block : Bool) (text : List ℕ) → begins_opener block text ≡ false → token_at block text ≡ Some (text_at block text)
unfolding token_at
text-token block text e =
    let none = none-at block text e in
    rw (none.0, none.1, no-mark-at block text none.2) refl

text-spelled : (block : Bool) (piece rest : List ℕ) → 0 < length piece → NoOpener block (length piece) (piece ++ rest) → bytes_before (begins_opener block) rest ≡ 0 → token_at block (piece ++ rest) ≡ Some (kinds.Text, rest)
unfolding text_at
text-spelled block piece rest some none stop =
    let test = begins_opener block in
    let behind : drop (length piece) (piece ++ rest) ≡ rest = drop_at piece rest (length piece) refl in
    let past = before-past test (piece ++ rest) (length piece) (omega (arith, length-append piece rest)) none in
    let here : bytes_before test (drop (length piece) (piece ++ rest)) ≡ 0 = ap (bytes_before test) behind ∙ stop in
    let len : bytes_before test (piece ++ rest) ≡ length piece = omega (arith, past, here) in
    text-token block (piece ++ rest) (none 0 some) ∙ ap (λ n. Some (kinds.Text, drop n (piece ++ rest))) len ∙ ap (λ (xs : List ℕ). Some (kinds.Text, xs)) behind

other-name : (name : ElementName) → name ≢ element.Remove → is_remove name ≡ false
other-name element.Include other = refl
other-name element.Inline other = refl
other-name element.Choose other = refl
other-name element.When other = refl
other-name element.Otherwise other = refl
other-name element.Try other = refl
other-name element.Attempt other = refl
other-name element.Except other = refl
other-name element.Comment other = refl
other-name element.Remove other = absurd (other refl)
other-name element.Vars other = refl

name-other : (name : ElementName) → is_remove name ≡ false → name ≢ element.Remove
name-other name e is = let yes : is_remove name ≡ true = ap is_remove is in cc

name-remove : (name : ElementName) → is_remove name ≡ true → name ≡ element.Remove
name-remove element.Include e = absurd (cc)
name-remove element.Inline e = absurd (cc)
name-remove element.Choose e = absurd (cc)
name-remove element.When e = absurd (cc)
name-remove element.Otherwise e = absurd (cc)
name-remove element.Try e = absurd (cc)
name-remove element.Attempt e = absurd (cc)
name-remove element.Except e = absurd (cc)
name-remove element.Comment e = absurd (cc)
name-remove element.Remove e = refl
name-remove element.Vars e = absurd (cc)

open-spelled : (block : Bool) (tag : Tag) (piece rest : List ℕ) (s : SpellsTag piece tag) → token_at block (piece ++ rest) ≡ opened tag rest
unfolding token_at open_at
open-spelled block tag piece rest s =
    rw (tag-text piece tag rest s, tag-spelled piece tag rest s) refl

close-spelled : (block : Bool) (name : ElementName) (piece rest : List ℕ) (s : SpellsClose piece name) → token_at block (piece ++ rest) ≡ Some (kinds.Close name, rest)
unfolding token_at close_at
close-spelled block name piece rest s =
    rw (closing-text piece name rest s, closing-spelled piece name rest s) refl

opened-other : (tag : Tag) (rest : List ℕ) → tag.name ≢ element.Remove → opened tag rest ≡ Some (kinds.Open tag, rest)
unfolding opened
opened-other tag rest other = rw (other-name tag.name other) refl

opened-closed : (tag : Tag) (rest : List ℕ) → tag.name ≡ element.Remove → tag.closed ≡ true → opened tag rest ≡ Some (kinds.Remove, rest)
unfolding opened
opened-closed tag rest is closed = rw (is, closed) refl

opened-content : (tag : Tag) (text rest : List ℕ) → tag.name ≡ element.Remove → tag.closed ≡ false → after_removed text ≡ Some rest → opened tag text ≡ Some (kinds.Remove, rest)
unfolding opened
opened-content tag text rest is closed after = rw (is, closed, after) refl

remove-spelled : (block : Bool) (piece rest : List ℕ) → SpellsClosedRemove piece ⊎ SpellsRemove piece → token_at block (piece ++ rest) ≡ Some (kinds.Remove, rest)
remove-spelled block piece rest (inl s) = open-spelled block s.tag piece rest s.tag_is ∙ opened-closed s.tag rest s.name_is s.closed
remove-spelled block piece rest (inr s) =
    let text : piece ++ rest ≡ s.opening ++ (s.content ++ (codes "</esi:remove>" ++ rest)) = rw s.piece_is (simp append_assoc) in
    ap (token_at block) text ∙ open-spelled block s.tag s.opening (s.content ++ (codes "</esi:remove>" ++ rest)) s.tag_is
    ∙ opened-content s.tag (s.content ++ (codes "</esi:remove>" ++ rest)) rest s.name_is s.not_closed (removed-spelled s.content rest s.first)

start-spelled : (rest : List ℕ) → begins_ws rest ≡ true → token_at false (codes "<!--esi" ++ rest) ≡ Some (kinds.BlockStart, rest)
unfolding token_at mark_at
start-spelled rest ws = rw ws refl

end-spelled : (rest : List ℕ) → token_at true (codes "-->" ++ rest) ≡ Some (kinds.BlockEnd, rest)
unfolding token_at mark_at
end-spelled rest = refl

-- behind a text stands no byte more of it
abbrev pub StopsText : Bool → Kind → List ℕ → Type 0
StopsText block kind rest = is_text kind ≡ true → bytes_before (begins_opener block) rest ≡ 0

-- a token that is spelled is read, whatever follows
pub token-spelled : (block : Bool) (kind : Kind) (piece rest : List ℕ) → IsSpelling block kind piece rest → StopsText block kind rest → token_at block (piece ++ rest) ≡ Some (kind, rest)
token-spelled block kinds.Text piece rest (some, none) stops = text-spelled block piece rest some none (stops refl)
token-spelled block (kinds.Open tag) piece rest (other, s) stops = open-spelled block tag piece rest s ∙ opened-other tag rest other
token-spelled block (kinds.Close name) piece rest s stops = close-spelled block name piece rest s
token-spelled block kinds.Remove piece rest s stops = remove-spelled block piece rest s
token-spelled block kinds.BlockStart piece rest (outside, is, ws) stops = rw (outside, is) (start-spelled rest ws)
token-spelled block kinds.BlockEnd piece rest (inside, is) stops = rw (inside, is) (end-spelled rest)

-- a tag stands at an opener
tag-opener : (block : Bool) (text : List ℕ) → begins_opener block (codes "<esi:" ++ text) ≡ true
tag-opener block text = refl

closing-opener : (block : Bool) (text : List ℕ) → begins_opener block (codes "</esi:" ++ text) ≡ true
closing-opener block text = refl

-- each token but a text begins with an opener
pub spelled-opener : (block : Bool) (kind : Kind) (piece rest : List ℕ) → IsSpelling block kind piece rest → is_text kind ≡ false → begins_opener block (piece ++ rest) ≡ true
spelled-opener block kinds.Text piece rest s other = absurd (cc)
spelled-opener block (kinds.Open tag) piece rest (n, s) other = rw (tag-text piece tag rest s) refl
spelled-opener block (kinds.Close name) piece rest s other = rw (closing-text piece name rest s) refl
spelled-opener block kinds.Remove piece rest (inl s) other = rw (tag-text piece s.tag rest s.tag_is) refl
spelled-opener block kinds.Remove piece rest (inr s) other =
    let text : piece ++ rest ≡ s.opening ++ (s.content ++ (codes "</esi:remove>" ++ rest)) = rw s.piece_is (simp append_assoc) in
    rw (text, tag-text s.opening s.tag (s.content ++ (codes "</esi:remove>" ++ rest)) s.tag_is) refl
spelled-opener block kinds.BlockStart piece rest (outside, is, ws) other = rw (outside, is, ws) refl
spelled-opener block kinds.BlockEnd piece rest (inside, is) other = rw (inside, is) refl

-- a token has a byte at least
pub spelled-some : (block : Bool) (kind : Kind) (piece rest : List ℕ) → IsSpelling block kind piece rest → 0 < length piece
spelled-some block kinds.Text piece rest (some, none) = some
spelled-some block (kinds.Open tag) piece rest (other, s) = rw s.piece_is (omega arith)
spelled-some block (kinds.Close name) piece rest s = rw s.piece_is (omega arith)
spelled-some block kinds.Remove piece rest (inl s) = rw (s.tag_is).piece_is (omega arith)
spelled-some block kinds.Remove piece rest (inr s) =
    let tag : 0 < length s.opening = rw (s.tag_is).piece_is (omega arith) in
    rw s.piece_is (omega (arith, tag, length-append s.opening (s.content ++ codes "</esi:remove>")))
spelled-some block kinds.BlockStart piece rest (outside, is, ws) = rw is (omega arith)
spelled-some block kinds.BlockEnd piece rest (inside, is) = rw is (omega arith)

-- a token at the front of a text, up to this rest
abbrev pub IsTokenAt : Bool → List ℕ → Kind → List ℕ → Type 0
IsTokenAt block text kind rest = (piece : List ℕ) × (text ≡ piece ++ rest) × IsSpelling block kind piece rest × StopsText block kind rest

abbrev found_kind : Kind × List ℕ → Kind
found_kind p = p.0

-- the same of the kind and the rest that were found
with-found : (block : Bool) (text : List ℕ) (a b : Kind) (x y : List ℕ) → ◌≡◌ {A = Kind × List ℕ} (a, x) (b, y) → IsTokenAt block text a x → IsTokenAt block text b y
with-found block text a b x y same is =
    subst (λ (p : Kind × List ℕ). IsTokenAt block text p.0 p.1) same is

not-text : (block : Bool) (kind : Kind) (rest : List ℕ) → is_text kind ≡ false → StopsText block kind rest
not-text block kind rest other is = absurd (cc)

opened-found : (block : Bool) (text behind : List ℕ) (tag : Tag) (piece : List ℕ) (kind : Kind) (rest : List ℕ) → text ≡ piece ++ behind → SpellsTag piece tag → opened tag behind ≡ Some (kind, rest) → IsTokenAt block text kind rest
unfolding opened
opened-found block text behind tag piece kind rest cut s found = by_name (is_remove tag.name) tag.closed refl refl found
  where
    by_name : (remove closed : Bool) → is_remove tag.name ≡ remove → tag.closed ≡ closed → cond {A = Option (Kind × List ℕ)} remove (removed closed behind) (Some (kinds.Open tag, behind)) ≡ Some (kind, rest) → IsTokenAt block text kind rest
    by_name false closed other is f =
        with-found block text (kinds.Open tag) kind behind rest (some-same f) (piece, cut, (name-other tag.name other, s), not-text block (kinds.Open tag) behind refl)
    by_name true true name is f =
        with-found block text kinds.Remove kind behind rest (some-same f) (piece, cut, inl (record { tag = tag; tag_is = s; name_is = name-remove tag.name name; closed = is }), not-text block kinds.Remove behind refl)
    by_name true false name is f =
        let (after, after_is, same) = bind-some (after_removed behind) (λ after. Some (kinds.Remove, after)) (kind, rest) f in
        let (content, content_cut, first) = removed-found behind after after_is in
        let whole : piece ++ (content ++ (codes "</esi:remove>" ++ after)) ≡ (piece ++ (content ++ codes "</esi:remove>")) ++ after = simp append_assoc in
        with-found block text kinds.Remove kind after rest (some-same same) (
          piece ++ (content ++ codes "</esi:remove>"),
          cut ∙ ap (λ xs. piece ++ xs) content_cut ∙ whole,
          inr (record { opening = piece; tag = tag; tag_is = s; name_is = name-remove tag.name name; not_closed = is; content = content; first = first; piece_is = refl }),
          not-text block kinds.Remove after refl,
        )

open-found : (block : Bool) (text behind : List ℕ) (kind : Kind) (rest : List ℕ) → text ≡ codes "<esi:" ++ behind → open_at behind ≡ Some (kind, rest) → IsTokenAt block text kind rest
unfolding open_at
open-found block text behind kind rest is found =
    let (one, one_is, more) = bind-some (tag_at behind) (λ (one : Tag × List ℕ). opened one.0 one.1) (kind, rest) found in
    let (piece, cut, s) = tag-found behind one.0 one.1 one_is in
    opened-found block text one.1 one.0 piece kind rest (is ∙ cut) s more

close-found : (block : Bool) (text behind : List ℕ) (kind : Kind) (rest : List ℕ) → text ≡ codes "</esi:" ++ behind → close_at behind ≡ Some (kind, rest) → IsTokenAt block text kind rest
unfolding close_at
close-found block text behind kind rest is found =
    let (one, one_is, same) = bind-some (closing_at behind) (λ (one : ElementName × List ℕ). Some (kinds.Close one.0, one.1)) (kind, rest) found in
    let (piece, cut, s) = closing-found behind one.0 one.1 one_is in
    with-found block text (kinds.Close one.0) kind one.1 rest (some-same same) (piece, is ∙ cut, s, not-text block (kinds.Close one.0) one.1 refl)

-- behind a text stands an opener, or the end
before-stop : (test : List ℕ → Bool) (text : List ℕ) → bytes_before test (drop (bytes_before test text) text) ≡ 0
before-stop test [] = refl
before-stop test (b ∷ bs) = by_test (test (b ∷ bs)) refl (before-stop test bs)
  where
    by_test : (t : Bool) → test (b ∷ bs) ≡ t → bytes_before test (drop (bytes_before test bs) bs) ≡ 0 → bytes_before test (drop (cond t 0 (bytes_before test bs + 1)) (b ∷ bs)) ≡ 0
    by_test true is later = rw is refl
    by_test false is later =
        let n : bytes_before test bs + 1 ≡ suc (bytes_before test bs) = omega arith in
        rw n later

before-within : (test : List ℕ → Bool) (text : List ℕ) → bytes_before test text ≤ length text
before-within test [] = omega arith
before-within test (b ∷ bs) = by_test (test (b ∷ bs)) (before-within test bs)
  where
    by_test : (t : Bool) → bytes_before test bs ≤ length bs → cond t 0 (bytes_before test bs + 1) ≤ suc (length bs)
    by_test true later = omega arith
    by_test false later = omega (arith, later)

text-found : (block : Bool) (text : List ℕ) → 0 < length text → begins_opener block text ≡ false → IsTokenAt block text kinds.Text (drop (bytes_before (begins_opener block) text) text)
text-found block text some none =
    let test = begins_opener block in
    let n = bytes_before test text in
    let len : length (take n text) ≡ n = let within = before-within test text in omega (arith, length-take n text) in
    let more = before-fails test text some none in
    let whole = cut-at n text in (
      take n text,
      whole,
      (omega (arith, len, more), λ i h. ap (λ xs. test (drop i xs)) (sym whole) ∙ before-fail test text i (omega (arith, len))),
      λ is. before-stop test text,
    )

mark-found : (block : Bool) (text : List ℕ) (kind : Kind) (rest : List ℕ) → mark_at block text ≡ Some (kind, rest) → IsTokenAt block text kind rest
unfolding mark_at
mark-found true text kind rest found =
    let (is, same) = if-then (begins_mark true text) (Some (kinds.BlockEnd, drop 3 text)) (kind, rest) found in
    with-found true text kinds.BlockEnd kind (drop 3 text) rest (some-same same) (codes "-->", begins-cut text (codes "-->") is, (refl, refl), not-text true kinds.BlockEnd (drop 3 text) refl)
mark-found false text kind rest found =
    let (is, same) = if-then (begins_mark false text) (Some (kinds.BlockStart, drop 7 text)) (kind, rest) found in
    let parts = both_parts (begins_with text (codes "<!--esi")) (begins_ws (drop 7 text)) is in
    with-found false text kinds.BlockStart kind (drop 7 text) rest (some-same same) (codes "<!--esi", begins-cut text (codes "<!--esi") parts.0, (refl, refl, parts.1), not-text false kinds.BlockStart (drop 7 text) refl)

mark-none : (block : Bool) (text : List ℕ) → mark_at block text ≡ None → begins_mark block text ≡ false
unfolding mark_at
mark-none true text none = by_test (begins_mark true text) none
  where
    by_test : (t : Bool) → cond {A = Option (Kind × List ℕ)} t (Some (kinds.BlockEnd, drop 3 text)) None ≡ None → t ≡ false
    by_test true e = absurd (cc)
    by_test false e = refl
mark-none false text none = by_test (begins_mark false text) none
  where
    by_test : (t : Bool) → cond {A = Option (Kind × List ℕ)} t (Some (kinds.BlockStart, drop 7 text)) None ≡ None → t ≡ false
    by_test true e = absurd (cc)
    by_test false e = refl

-- a token that is read is spelled so
pub token-found : (block : Bool) (text : List ℕ) (kind : Kind) (rest : List ℕ) → 0 < length text → token_at block text ≡ Some (kind, rest) → IsTokenAt block text kind rest
unfolding token_at text_at
token-found block text kind rest some found =
    by_tests (begins_with text (codes "<esi:")) (begins_with text (codes "</esi:")) (mark_at block text) refl refl refl found
  where
    by_tests : (opens closes : Bool) (mark : Option (Kind × List ℕ)) → begins_with text (codes "<esi:") ≡ opens → begins_with text (codes "</esi:") ≡ closes → mark_at block text ≡ mark
        → cond {A = Option (Kind × List ℕ)} opens (open_at (drop 5 text)) (cond {A = Option (Kind × List ℕ)} closes (close_at (drop 6 text)) (mark_or_text (kinds.Text, drop (bytes_before (begins_opener block) text) text) mark)) ≡ Some (kind, rest) → IsTokenAt block text kind rest
    by_tests true closes mark is other m f = open-found block text (drop 5 text) kind rest (begins-cut text (codes "<esi:") is) f
    by_tests false true mark other is m f = close-found block text (drop 6 text) kind rest (begins-cut text (codes "</esi:") is) f
    by_tests false false (Some mark) o c m f = mark-found block text kind rest (m ∙ f)
    by_tests false false None o c m f =
        let none : begins_opener block text ≡ false = rw (o, c, mark-none block text m) refl in
        with-found block text kinds.Text kind (drop (bytes_before (begins_opener block) text) text) rest (some-same f) (text-found block text some none)

-- where no token is read, a bad opener stands
pub token-none : (block : Bool) (text : List ℕ) → token_at block text ≡ None → (begins_with text (codes "<esi:") ≡ true) ⊎ (begins_with text (codes "</esi:") ≡ true)
unfolding token_at text_at
token-none block text none =
    by_tests (begins_with text (codes "<esi:")) (begins_with text (codes "</esi:")) (mark_at block text) refl refl none
  where
    by_tests : (opens closes : Bool) (mark : Option (Kind × List ℕ)) → begins_with text (codes "<esi:") ≡ opens → begins_with text (codes "</esi:") ≡ closes
        → cond {A = Option (Kind × List ℕ)} opens (open_at (drop 5 text)) (cond {A = Option (Kind × List ℕ)} closes (close_at (drop 6 text)) (mark_or_text (kinds.Text, drop (bytes_before (begins_opener block) text) text) mark)) ≡ None → (begins_with text (codes "<esi:") ≡ true) ⊎ (begins_with text (codes "</esi:") ≡ true)
    by_tests true closes mark is c f = inl is
    by_tests false true mark o is f = inr is
    by_tests false false (Some mark) o c f = absurd (cc)
    by_tests false false None o c f = absurd (cc)
