-- The elements that are open behind tokens are those that the reading has open.
use Rattle.std.proofs.Common.{◌≡◌, ℕ, zero, suc, ◌+◌, ◌==◌, ◌&&◌, Bool, true, false, cond, List, [], ◌∷◌, map, Option, Some, None, refl, sym, ◌∙◌, ap, subst, arith, add-one}
use Rattle.std.proofs.lemmas.Bool.{eqb-true}
use Rattle.std.specs.List.{slice_get}
use Rattle.std.proofs.lemmas.Option.{cond_some, option_and_then_some}
use Rattle.esi_scanner.specs.declared.element_name.ElementName.{ElementName}
use Rattle.esi_scanner.specs.declared.element_name.ElementName.TheVariants as element
use Rattle.esi_scanner.specs.declared.tag.Tag.{Tag}
use Rattle.esi_scanner.specs.declared.token.Kind.{Kind}
use Rattle.esi_scanner.specs.declared.token.Kind.TheVariants as kinds
use Rattle.esi_scanner.specs.declared.token.Token.{Token}
use Rattle.esi_tree.specs.Tree as tree
use Rattle.esi_tree.specs.Tree.{Element}
use Rattle.esi_tree.specs.Shown.{Branch}
use Rattle.esi_tree.specs.Attributes.{is_white}
use Rattle.esi_tree.specs.Items.{item_with, bytes_at, item_of}
use Rattle.esi_tree.specs.Reading.{Halves, Frame, InInclude, InComment, InInline, InVars, InChoose, InWhen, InOtherwise, InTry, InAttempt, InExcept, State, start, Child, AnElement, put_in, grown, is_run, in_vars, text_element, after_text, after_remove, stands_in_run, stands_in_choose, stands_in_try, may_stand, opened_by, name_of, is_same, child_of, left, after}
use Rattle.esi_tree.proofs.Runs.{opened, taken, Enters, opened-inverts, left-inverts}
use Rattle.esi_tree.proofs.Places.{keeps}
use Rattle.esi_tree.proofs.Depths.{after-inverts}
use Rattle.template_check.specs.declared.elements.Opened.{Opened}
use Rattle.template_check.specs.OpenElements.{ended_before, ends_part, then_part, has_part}
use Rattle.template_check.specs.Reasons.{stands_in, is_single}
use Rattle.template_check.specs.Refusals.{state_behind, outer_of, open_by, open_behind, has}
use Rattle.template_check.proofs.PartLemmas.{not-single, element-has, adds, opened-named, opened-empty}

-- an element of this name may stand directly in the innermost of these, by the names alone
abbrev pub StandsIn : ElementName → List Frame → Type 0
StandsIn name [] = stands_in_run name ≡ true
StandsIn name (frame ∷ outer) = stands_in name (name_of frame) ≡ true

-- each element stands where it may
abbrev pub Nested : List Frame → Type 0
Nested [] = Unit {0}
Nested (frame ∷ outer) = StandsIn (name_of frame) outer × Nested outer

-- whether the element there has such a part
abbrev pub has_at : ElementName → Option Frame → Bool
has_at wanted None = false
has_at wanted (Some frame) = has wanted frame

-- the same elements, with as many parts
pub record Kept (frames more : List Frame) : Type 0 where
  pub names : map name_of more ≡ map name_of frames
  pub nested : Nested frames → Nested more
  pub parts : (wanted : ElementName) (n : ℕ) → has_at wanted (slice_get more n) ≡ has_at wanted (slice_get frames n)

nested-grown : (child : Child) (frame : Frame) (outer : List Frame) → Nested (frame ∷ outer) → Nested (grown child frame ∷ outer)
nested-grown child frame outer is =
    let P : ElementName → Type 0 = λ name. StandsIn name outer in
    (subst P (sym (keeps child frame).named) is.0, is.1)

names-put : (child : Child) (frames : List Frame) (content : List Element) → map name_of (put_in child frames content).frames ≡ map name_of frames
names-put child [] content = refl
names-put child (frame ∷ outer) content = ap (λ name. name ∷ map name_of outer) (keeps child frame).named

nested-put : (child : Child) (frames : List Frame) (content : List Element) → Nested frames → Nested (put_in child frames content).frames
nested-put child [] content is = is
nested-put child (frame ∷ outer) content is = nested-grown child frame outer is

parts-put : (e : Element) (frames : List Frame) (content : List Element) (wanted : ElementName) (n : ℕ) → has_at wanted (slice_get (put_in (AnElement e) frames content).frames n) ≡ has_at wanted (slice_get frames n)
parts-put e [] content wanted n = refl
parts-put e (frame ∷ outer) content wanted zero = element-has wanted e frame
parts-put e (frame ∷ outer) content wanted (suc n) = refl

kept-put : (e : Element) (frames : List Frame) (content : List Element) → Kept frames (put_in (AnElement e) frames content).frames
kept-put e frames content = record { names = names-put (AnElement e) frames content; nested = nested-put (AnElement e) frames content; parts = parts-put e frames content }

kept-same : (frames : List Frame) → Kept frames frames
kept-same frames = record { names = refl; nested = λ is. is; parts = λ wanted n. refl }

kept-next : (frames : List Frame) (one other : State) → one ≡ other → Kept frames one.frames → Kept frames other.frames
kept-next frames one other same is = let P : State → Type 0 = λ s. Kept frames s.frames in subst P same is

text-kept : (bytes : List ℕ) (state next : State) → after_text bytes state ≡ Some next → Kept state.frames next.frames
unfolding after_text
text-kept bytes state next e = by_place (is_run state.frames) e
  where
    by_place : (b : Bool) → cond b (Some (put_in (AnElement (text_element (in_vars state.frames) bytes)) state.frames state.content)) (cond (is_white bytes) (Some state) None) ≡ Some next → Kept state.frames next.frames
    by_place true e' =
        let grew = put_in (AnElement (text_element (in_vars state.frames) bytes)) state.frames state.content in
        let same : grew ≡ next = cc in
        kept-next state.frames grew next same (kept-put (text_element (in_vars state.frames) bytes) state.frames state.content)
    by_place false e' = kept-next state.frames state next (cond_some (is_white bytes) state next e').1 (kept-same state.frames)

remove-kept : (state next : State) → after_remove state ≡ Some next → Kept state.frames next.frames
unfolding after_remove
remove-kept state next e =
    let grew = put_in (AnElement tree.Nothing) state.frames state.content in
    kept-next state.frames grew next (cond_some (is_run state.frames) grew next e).1 (kept-put tree.Nothing state.frames state.content)

not-zero : (n : ℕ) → (suc n == 0) ≡ false
not-zero n = by_test (suc n == 0) refl
  where
    by_test : (b : Bool) → (suc n == 0) ≡ b → (suc n == 0) ≡ false
    by_test true e = let same = eqb-true (suc n) 0 e in absurd (omega arith)
    by_test false e = e

-- of any element but the innermost nothing is asked
deeper : (n : ℕ) (b value : Bool) → cond (suc n == 0 && b) true value ≡ value
deeper n b value = rw (not-zero n) refl

-- an element has ended: what the one round it has
ended-parts : (wanted : ElementName) (frame : Frame) (outer : List Frame) (child : Child) (content : List Element) → is_single wanted ≡ true → StandsIn (name_of frame) outer → child_of frame ≡ Some child
    → (n : ℕ) → has_at wanted (slice_get (put_in child outer content).frames n) ≡ cond (n == 0 && is_same (name_of frame) wanted) true (has_at wanted (slice_get outer n))
ended-parts wanted frame [] child content single stands gives zero = sym (ap (λ b. cond b true false) (not-single (name_of frame) wanted stands single))
ended-parts wanted frame [] child content single stands gives (suc n) = sym (deeper n (is_same (name_of frame) wanted) false)
ended-parts wanted frame (g ∷ outer) child content single stands gives zero = adds wanted frame g child single stands gives
ended-parts wanted frame (g ∷ outer) child content single stands gives (suc n) = sym (deeper n (is_same (name_of frame) wanted) (has_at wanted (slice_get outer n)))

-- what is known of the elements that are open
pub record Known (before : List Token) (frames : List Frame) : Type 0 where
  pub names : map (λ (opened : Opened). opened.name) (open_behind before) ≡ map name_of frames
  pub nested : Nested frames
  pub parts : (wanted : ElementName) → is_single wanted ≡ true → (n : ℕ) → has_part wanted n before ≡ has_at wanted (slice_get frames n)

-- where it may stand, it may by the names
stands-choose : (name : ElementName) (branches : List Branch) → stands_in_choose name branches ≡ true → stands_in name element.Choose ≡ true
stands-choose element.When branches may = refl
stands-choose element.Otherwise branches may = refl
stands-choose _ branches may = absurd (cc)

stands-try : (name : ElementName) (halves : Halves) → stands_in_try name halves ≡ true → stands_in name element.Try ≡ true
stands-try element.Attempt halves may = refl
stands-try element.Except halves may = refl
stands-try _ halves may = absurd (cc)

pub stands-by_name : (name : ElementName) (frames : List Frame) → may_stand name frames ≡ true → StandsIn name frames
stands-by_name name [] may = may
stands-by_name name (InInclude include ∷ outer) may = absurd (cc)
stands-by_name name (InComment ∷ outer) may = absurd (cc)
stands-by_name name (InInline label content ∷ outer) may = may
stands-by_name name (InVars content ∷ outer) may = may
stands-by_name name (InChoose branches ∷ outer) may = stands-choose name branches may
stands-by_name name (InWhen test content ∷ outer) may = may
stands-by_name name (InOtherwise content ∷ outer) may = may
stands-by_name name (InTry halves ∷ outer) may = stands-try name halves may
stands-by_name name (InAttempt content ∷ outer) may = may
stands-by_name name (InExcept content ∷ outer) may = may

-- what one token more makes of the parts
abbrev part_behind : (ElementName → ℕ → Bool) → Kind → ElementName → ℕ → Bool
part_behind others kind wanted n = cond (ends_part wanted kind n) true (then_part (λ m. others wanted m) (ended_before kind n))

-- the same of frames that are known: names, nesting and parts behind a token of the kind
pub record Next (kind : Kind) (place : ℕ) (elements : List Opened) (frames more : List Frame) : Type 0 where
  pub names : map (λ (opened : Opened). opened.name) elements ≡ map name_of frames → map (λ (opened : Opened). opened.name) (open_by kind place elements) ≡ map name_of more
  pub nested : Nested frames → Nested more
  pub parts : Nested frames → (others : ElementName → ℕ → Bool) → ((wanted : ElementName) → is_single wanted ≡ true → (n : ℕ) → others wanted n ≡ has_at wanted (slice_get frames n))
      → (wanted : ElementName) → is_single wanted ≡ true → (n : ℕ) → part_behind others kind wanted n ≡ has_at wanted (slice_get more n)

no-part : (b : Bool) → (b && false) ≡ false
no-part true = refl
no-part false = refl

next-run : (place : ℕ) (elements : List Opened) (frames more : List Frame) → Kept frames more → Next kinds.Text place elements frames more
next-run place elements frames more kept = record {
  names = λ same. same ∙ sym kept.names;
  nested = kept.nested;
  parts = λ nest others each wanted single n. ap (λ b. cond b true (others wanted n)) (no-part (n == 0)) ∙ each wanted single n ∙ sym (kept.parts wanted n);
}

next-remove : (place : ℕ) (elements : List Opened) (frames more : List Frame) → Kept frames more → Next kinds.Remove place elements frames more
next-remove place elements frames more kept = record {
  names = λ same. same ∙ sym kept.names;
  nested = kept.nested;
  parts = λ nest others each wanted single n. ap (λ b. cond b true (others wanted n)) (no-part (n == 0)) ∙ each wanted single n ∙ sym (kept.parts wanted n);
}

next-block_start : (place : ℕ) (elements : List Opened) (frames more : List Frame) → Kept frames more → Next kinds.BlockStart place elements frames more
next-block_start place elements frames more kept = record {
  names = λ same. same ∙ sym kept.names;
  nested = kept.nested;
  parts = λ nest others each wanted single n. ap (λ b. cond b true (others wanted n)) (no-part (n == 0)) ∙ each wanted single n ∙ sym (kept.parts wanted n);
}

next-block_end : (place : ℕ) (elements : List Opened) (frames more : List Frame) → Kept frames more → Next kinds.BlockEnd place elements frames more
next-block_end place elements frames more kept = record {
  names = λ same. same ∙ sym kept.names;
  nested = kept.nested;
  parts = λ nest others each wanted single n. ap (λ b. cond b true (others wanted n)) (no-part (n == 0)) ∙ each wanted single n ∙ sym (kept.parts wanted n);
}

outer-names : (elements : List Opened) (name : ElementName) (names : List ElementName) → map (λ (opened : Opened). opened.name) elements ≡ name ∷ names → map (λ (opened : Opened). opened.name) (outer_of elements) ≡ names
outer-names [] name names same = absurd (cc)
outer-names (opened ∷ outer) name names same = cc

next-close : (name : ElementName) (place : ℕ) (elements : List Opened) (state next : State) → left name state ≡ Some next → Next (kinds.Close name) place elements state.frames next.frames
next-close name place elements state next e =
    let leaves = left-inverts name state.frames state.content next e in
    let P : List Frame → Type 0 = λ frames. Next (kinds.Close name) place elements frames next.frames in
    let Q : State → Type 0 = λ s. Next (kinds.Close name) place elements (leaves.frame ∷ leaves.outer) s.frames in
    subst P (sym leaves.frames_are) (subst Q leaves.next_is (record {
      names = λ same. outer-names elements (name_of leaves.frame) (map name_of leaves.outer) same ∙ sym (names-put leaves.child leaves.outer state.content);
      nested = λ nest. nested-put leaves.child leaves.outer state.content nest.1;
      parts = λ nest others each wanted single n.
          ap (λ b. cond b true (others wanted (n + 1))) (ap (λ a. n == 0 && is_same a wanted) leaves.named)
          ∙ ap (cond (n == 0 && is_same (name_of leaves.frame) wanted) true) (each wanted single (n + 1) ∙ ap (λ m. has_at wanted (slice_get (leaves.frame ∷ leaves.outer) m)) (add-one n))
          ∙ sym (ended-parts wanted leaves.frame leaves.outer leaves.child state.content single nest.0 leaves.child_is n);
    }))

next-entered : (tag : Tag) (place : ℕ) (elements : List Opened) (state : State) (frame : Frame) → tag.closed ≡ false → may_stand tag.name state.frames ≡ true → opened_by tag.name tag.attributes ≡ Some frame
    → Next (kinds.Open tag) place elements state.frames (frame ∷ state.frames)
next-entered tag place elements state frame closed may opens = record {
  names = λ same. rw closed (ap (λ name. name ∷ map (λ (opened : Opened). opened.name) elements) (opened-named tag.name tag.attributes frame opens) ∙ ap (λ names. name_of frame ∷ names) same);
  nested = λ nest. (subst (λ name. StandsIn name state.frames) (opened-named tag.name tag.attributes frame opens) (stands-by_name tag.name state.frames may), nest);
  parts = λ nest others each wanted single n. by_place others each wanted single n;
}
  where
    by_place : (others : ElementName → ℕ → Bool) → ((wanted : ElementName) → is_single wanted ≡ true → (n : ℕ) → others wanted n ≡ has_at wanted (slice_get state.frames n))
        → (wanted : ElementName) → is_single wanted ≡ true → (n : ℕ) → part_behind others (kinds.Open tag) wanted n ≡ has_at wanted (slice_get (frame ∷ state.frames) n)
    by_place others each wanted single zero = rw closed (sym (opened-empty wanted tag.name tag.attributes frame opens))
    by_place others each wanted single (suc n) = rw closed (deeper n false (others wanted n) ∙ each wanted single n)

next-closed : (tag : Tag) (place : ℕ) (elements : List Opened) (state next : State) (frame : Frame) → tag.closed ≡ true → may_stand tag.name state.frames ≡ true → opened_by tag.name tag.attributes ≡ Some frame
    → left tag.name (record { frames = frame ∷ state.frames; content = state.content }) ≡ Some next → Next (kinds.Open tag) place elements state.frames next.frames
next-closed tag place elements state next frame closed may opens e =
    let leaves = left-inverts tag.name (frame ∷ state.frames) state.content next e in
    let inner : leaves.frame ≡ frame = cc in
    let rest : leaves.outer ≡ state.frames = cc in
    let named = opened-named tag.name tag.attributes frame opens in
    let Q : State → Type 0 = λ s. Next (kinds.Open tag) place elements state.frames s.frames in
    let there : put_in leaves.child state.frames state.content ≡ next = ap (λ frames. put_in leaves.child frames state.content) (sym rest) ∙ leaves.next_is in
    let gives : child_of frame ≡ Some leaves.child = ap child_of (sym inner) ∙ leaves.child_is in
    subst Q there (record {
      names = λ same. rw closed (same ∙ sym (names-put leaves.child state.frames state.content));
      nested = λ nest. nested-put leaves.child state.frames state.content nest;
      parts = λ nest others each wanted single n.
          rw closed (
          ap (λ b. cond b true (others wanted n)) (ap (λ a. n == 0 && is_same a wanted) named)
          ∙ ap (cond (n == 0 && is_same (name_of frame) wanted) true) (each wanted single n)
          ∙ sym (ended-parts wanted frame state.frames leaves.child state.content single (subst (λ name. StandsIn name state.frames) named (stands-by_name tag.name state.frames may)) gives n));
    })

next-elements : (tag : Tag) (place : ℕ) (elements : List Opened) (state next : State) → opened tag state ≡ Some next → Next (kinds.Open tag) place elements state.frames next.frames
next-elements tag place elements state next e =
    let (within, enters, rest) = opened-inverts tag state next e in
    by_closed within enters tag.closed refl rest
  where
    by_closed : (within : State) (enters : Enters tag.name tag.attributes state within) (b : Bool) → tag.closed ≡ b → cond b (left tag.name within) (Some within) ≡ Some next → Next (kinds.Open tag) place elements state.frames next.frames
    by_closed within enters true closed rest =
        next-closed tag place elements state next enters.frame closed enters.allowed enters.opens (ap (left tag.name) enters.within_is ∙ rest)
    by_closed within enters false closed rest =
        let same : within ≡ next = cc in
        let Q : State → Type 0 = λ s. Next (kinds.Open tag) place elements state.frames s.frames in
        subst Q (enters.within_is ∙ same) (next-entered tag place elements state enters.frame closed enters.allowed enters.opens)

next-by : (kind : Kind) (bytes : List ℕ) (place : ℕ) (elements : List Opened) (state next : State) → taken (item_with bytes kind) state ≡ Some next → Next kind place elements state.frames next.frames
next-by kinds.Text bytes place elements state next e = next-run place elements state.frames next.frames (text-kept bytes state next e)
next-by (kinds.Open tag) bytes place elements state next e = next-elements tag place elements state next e
next-by (kinds.Close name) bytes place elements state next e = next-close name place elements state next e
next-by kinds.Remove bytes place elements state next e = next-remove place elements state.frames next.frames (remove-kept state next e)
next-by kinds.BlockStart bytes place elements state next e = let same : state ≡ next = cc in next-block_start place elements state.frames next.frames (kept-next state.frames state next same (kept-same state.frames))
next-by kinds.BlockEnd bytes place elements state next e = let same : state ≡ next = cc in next-block_end place elements state.frames next.frames (kept-next state.frames state next same (kept-same state.frames))

known-next : (token : Token) (before : List Token) (frames more : List Frame) → Next token.kind token.span.start (open_behind before) frames more → Known before frames → Known (token ∷ before) more
unfolding open_behind has_part
known-next token before frames more next is = record {
  names = next.names is.names;
  nested = next.nested is.nested;
  parts = λ wanted single n. next.parts is.nested (λ w m. has_part w m before) is.parts wanted single n;
}

pub known : (text : List ℕ) (before : List Token) (state : State) → state_behind text before ≡ Some state → Known before state.frames
unfolding state_behind open_behind has_part
known text [] state e =
    let P : State → Type 0 = λ s. Known [] s.frames in
    let same : start ≡ state = cc in
    subst P same (record { names = refl; nested = tt; parts = λ wanted single n. refl })
known text (token ∷ before) state e =
    option_and_then_some (λ s. after (item_of text token) s) (state_behind text before) state e (λ last read step.
    known-next token before last.frames state.frames
    (next-by token.kind (bytes_at text token.span) token.span.start (open_behind before) last state (after-inverts (item_of text token) last state step).1)
    (known text before last read))
