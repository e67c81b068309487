-- What the reason for an opening tag says is so.
use Rattle.std.proofs.Common.{◌≡◌, ◌⊎◌, inl, inr, ℕ, ◌&&◌, Bool, true, false, not, cond, nat_lt, ltb-false, List, [], ◌∷◌, length, map, Option, Some, None, refl, sym, ◌∙◌, ap, subst}
use Rattle.std.specs.List.{slice_get}
use Rattle.std.proofs.lemmas.List.{length-map}
use Rattle.esi_scanner.specs.declared.attribute.Attribute.{Attribute}
use Rattle.esi_scanner.specs.declared.attribute.KnownAttribute.TheVariants as known
use Rattle.esi_scanner.specs.declared.element_name.ElementName.{ElementName}
use Rattle.esi_scanner.specs.declared.element_name.ElementName.TheVariants as element
use Rattle.esi_scanner.specs.declared.tag.Tag.{Tag}
use Rattle.esi_scanner.specs.declared.token.Kind.TheVariants as kinds
use Rattle.esi_scanner.specs.declared.token.Token.{Token}
use Rattle.esi_scanner.specs.Tag.{value_of}
use Rattle.esi_expr.specs.Tree.{Test}
use Rattle.esi_expr.specs.Reading.{read_test}
use Rattle.esi_tree.specs.declared.open_elements.TheConstants.{OPEN_LIMIT}
use Rattle.esi_tree.specs.Reading.{Neither, Frame, InInclude, InComment, InInline, InVars, InChoose, InWhen, InOtherwise, InTry, InAttempt, InExcept, State, may_stand, opened_by, inside, entered, name_of, child_of, left, after_tag}
use Rattle.template_check.specs.declared.elements.Opened.{Opened}
use Rattle.template_check.specs.declared.reason.Reason.TheVariants as why
use Rattle.template_check.specs.OpenElements.{innermost, open_count, has_part}
use Rattle.template_check.specs.Reasons as reasons
use Rattle.template_check.specs.Reasons.{stands_in, is_single, lacking_by, lacking, by_test, open_reason}
use Rattle.template_check.specs.Refusals.{open_behind, first, has, Says}
use Rattle.template_check.proofs.OpenLemmas.{innermost-is, open_count-is, first-is}
use Rattle.template_check.proofs.PartLemmas.{opened-named}
use Rattle.template_check.proofs.ReadLemmas.{StandsIn, Known, has_at, stands-by_name}
use Rattle.template_check.proofs.SayLemmas.{left-none, may-stand}

-- a tag that may stand opens nothing, or is closed and its element can't end
data Fails (tag : Tag) : Type 0 where
  OpensNothing : opened_by tag.name tag.attributes ≡ None → Fails tag
  CannotEnd : (frame : Frame) → tag.closed ≡ true → opened_by tag.name tag.attributes ≡ Some frame → child_of frame ≡ None → Fails tag

fails : (tag : Tag) (state : State) → nat_lt (length state.frames) OPEN_LIMIT ≡ true → may_stand tag.name state.frames ≡ true → after_tag tag state ≡ None → Fails tag
unfolding after_tag entered
fails tag state room may stuck = by_frame (opened_by tag.name tag.attributes) refl
  where
    by_frame : (o : Option Frame) → opened_by tag.name tag.attributes ≡ o → Fails tag
    by_frame None e = OpensNothing e
    by_frame (Some frame) e = by_closed tag.closed refl
      where
        by_closed : (b : Bool) → tag.closed ≡ b → Fails tag
        by_closed false closed =
            let goes : after_tag tag state ≡ Some (inside frame state) = rw (room, may, e, closed) refl in
            absurd (cc)
        by_closed true closed =
            let ends : after_tag tag state ≡ left tag.name (inside frame state) = rw (room, may, e, closed) refl in
            CannotEnd frame closed e (left-none tag.name frame state.frames state.content (sym ends ∙ stuck) (opened-named tag.name tag.attributes frame e))

-- only a choose and a try may lack what they need at their end
ends-always : (frame : Frame) → child_of frame ≡ None → (name_of frame ≡ element.Choose) ⊎ (name_of frame ≡ element.Try)
unfolding child_of
ends-always (InInclude include) none = absurd (cc)
ends-always InComment none = absurd (cc)
ends-always (InInline label content) none = absurd (cc)
ends-always (InVars content) none = absurd (cc)
ends-always (InChoose branches) none = inl refl
ends-always (InWhen test content) none = absurd (cc)
ends-always (InOtherwise content) none = absurd (cc)
ends-always (InTry halves) none = inr refl
ends-always (InAttempt content) none = absurd (cc)
ends-always (InExcept content) none = absurd (cc)

-- the name of a tag that fails at its end
no-end : (tag : Tag) (name : ElementName) (frame : Frame) → tag.name ≡ name → opened_by tag.name tag.attributes ≡ Some frame → child_of frame ≡ None → (name ≡ element.Choose) ⊎ (name ≡ element.Try)
no-end tag name frame e opens none = elim (ends-always frame none) [
  | inl choose ↦ inl (sym e ∙ opened-named tag.name tag.attributes frame opens ∙ choose)
  | inr try ↦ inr (sym e ∙ opened-named tag.name tag.attributes frame opens ∙ try)
]

no-remove : (frames : List Frame) → StandsIn element.Remove frames → ⊥
no-remove [] stands = absurd (cc)
no-remove (InInclude include ∷ outer) stands = absurd (cc)
no-remove (InComment ∷ outer) stands = absurd (cc)
no-remove (InInline label content ∷ outer) stands = absurd (cc)
no-remove (InVars content ∷ outer) stands = absurd (cc)
no-remove (InChoose branches ∷ outer) stands = absurd (cc)
no-remove (InWhen test content ∷ outer) stands = absurd (cc)
no-remove (InOtherwise content ∷ outer) stands = absurd (cc)
no-remove (InTry halves ∷ outer) stands = absurd (cc)
no-remove (InAttempt content ∷ outer) stands = absurd (cc)
no-remove (InExcept content ∷ outer) stands = absurd (cc)

no-src : (attributes : List Attribute) → opened_by element.Include attributes ≡ None → value_of known.Src attributes ≡ None
unfolding opened_by
no-src attributes none = by_value (value_of known.Src attributes) refl
  where
    by_value : (o : Option (List ℕ)) → value_of known.Src attributes ≡ o → value_of known.Src attributes ≡ None
    by_value None e = e
    by_value (Some src) e = let goes = rw e at none in absurd (cc)

no-name : (attributes : List Attribute) → opened_by element.Inline attributes ≡ None → value_of known.Name attributes ≡ None
unfolding opened_by
no-name attributes none = by_value (value_of known.Name attributes) refl
  where
    by_value : (o : Option (List ℕ)) → value_of known.Name attributes ≡ o → value_of known.Name attributes ≡ None
    by_value None e = e
    by_value (Some name) e = let goes = rw e at none in absurd (cc)

no-test : (attributes : List Attribute) (test : List ℕ) → opened_by element.When attributes ≡ None → value_of known.Test attributes ≡ Some test → read_test test ≡ None
unfolding opened_by
no-test attributes test none is = by_test_read (read_test test) refl
  where
    by_test_read : (o : Option Test) → read_test test ≡ o → read_test test ≡ None
    by_test_read None e = e
    by_test_read (Some read) e = let goes = rw (is, e) at none in absurd (cc)

-- what stands where it may, and can't be read, lacks what its reason tells
says-when : (tag : Tag) (token : Token) (state : State) (elements : List Opened) → token.kind ≡ kinds.Open tag → tag.name ≡ element.When → opened_by element.When tag.attributes ≡ None
    → (o : Option (List ℕ)) → value_of known.Test tag.attributes ≡ o → Says (by_test o) token state elements
says-when tag token state elements is named none None e = (tag, is, named, e, none)
says-when tag token state elements is named none (Some test) e = (tag, test, is, named, e, no-test tag.attributes test none e, refl)

-- an element that a closed tag opens, at the tag's place
closed_here : Tag → Token → Opened
closed_here tag token = record { name = tag.name; place = token.span.start }

says-lacking : (tag : Tag) (token : Token) (state : State) (elements : List Opened) → token.kind ≡ kinds.Open tag → StandsIn tag.name state.frames → Fails tag
    → (name : ElementName) → tag.name ≡ name → Says (lacking_by name tag.attributes token.span.start) token state elements
unfolding opened_by
says-lacking tag token state elements is stands (OpensNothing none) element.Include e = let nothing = rw e at none in (tag, is, e, no-src tag.attributes nothing, nothing)
says-lacking tag token state elements is stands (OpensNothing none) element.Inline e = let nothing = rw e at none in (tag, is, e, no-name tag.attributes nothing, nothing)
says-lacking tag token state elements is stands (OpensNothing none) element.When e = let nothing = rw e at none in says-when tag token state elements is e nothing (value_of known.Test tag.attributes) refl
says-lacking tag token state elements is stands (OpensNothing none) element.Remove e = absurd (no-remove state.frames (subst (λ name. StandsIn name state.frames) e stands))
says-lacking tag token state elements is stands (OpensNothing none) element.Choose e = let nothing = rw e at none in absurd (cc)
says-lacking tag token state elements is stands (OpensNothing none) element.Try e = let nothing = rw e at none in absurd (cc)
says-lacking tag token state elements is stands (OpensNothing none) element.Otherwise e = let nothing = rw e at none in absurd (cc)
says-lacking tag token state elements is stands (OpensNothing none) element.Attempt e = let nothing = rw e at none in absurd (cc)
says-lacking tag token state elements is stands (OpensNothing none) element.Except e = let nothing = rw e at none in absurd (cc)
says-lacking tag token state elements is stands (OpensNothing none) element.Comment e = let nothing = rw e at none in absurd (cc)
says-lacking tag token state elements is stands (OpensNothing none) element.Vars e = let nothing = rw e at none in absurd (cc)
says-lacking tag token state elements is stands (CannotEnd frame closed opens none) element.Choose e =
    let given = rw e at opens in
    let fresh : frame ≡ InChoose [] = cc in
    let whole : opened_by tag.name tag.attributes ≡ Some (InChoose []) = opens ∙ ap Some fresh in
    (InChoose [], inr (tag, is, closed, whole, ap (λ name. record { name = name; place = token.span.start }) (sym e)), ([], refl, refl))
says-lacking tag token state elements is stands (CannotEnd frame closed opens none) element.Try e =
    let given = rw e at opens in
    let fresh : frame ≡ InTry Neither = cc in
    let whole : opened_by tag.name tag.attributes ≡ Some (InTry Neither) = opens ∙ ap Some fresh in
    (InTry Neither, inr (tag, is, closed, whole, ap (λ name. record { name = name; place = token.span.start }) (sym e)), (Neither, refl, refl))
says-lacking tag token state elements is stands (CannotEnd frame closed opens none) _ e = elim (no-end tag _ frame e opens none) [
  | inl choose ↦ absurd (cc)
  | inr try ↦ absurd (cc)
]

-- where the innermost may hold an element by its name, the reading's innermost may
names-may : (name : ElementName) (elements : List Opened) (frames : List Frame) → map (λ (opened : Opened). opened.name) elements ≡ map name_of frames
    → (reasons.may_stand name (first elements) ≡ true → StandsIn name frames) × (StandsIn name frames → reasons.may_stand name (first elements) ≡ true)
names-may name [] [] same = ((λ may. may), λ stands. stands)
names-may name [] (frame ∷ outer) same = absurd (cc)
names-may name (opened ∷ elements) [] same = absurd (cc)
names-may name (opened ∷ elements) (frame ∷ outer) same =
    let here : opened.name ≡ name_of frame = cc in
    ((λ may. sym (ap (stands_in name) here) ∙ may), λ stands. ap (stands_in name) here ∙ stands)

has-part : (name : ElementName) (frames : List Frame) → has_at name (slice_get frames 0) ≡ true → (frame : Frame) × (outer : List Frame) × (frames ≡ frame ∷ outer) × (has name frame ≡ true)
has-part name [] is = absurd (cc)
has-part name (frame ∷ outer) is = (frame, outer, refl, is)

both-true : (a b : Bool) → (a && b) ≡ true → (a ≡ true) × (b ≡ true)
both-true true b e = (refl, e)
both-true false b e = absurd (cc)

-- of an opening tag
pub says-open : (tag : Tag) (token : Token) (before : List Token) (state : State) → token.kind ≡ kinds.Open tag → Known before state.frames → after_tag tag state ≡ None
    → Says (open_reason tag token.span.start before) token state (open_behind before)
says-open tag token before state is known stuck = by_room (nat_lt (open_count 0 before) OPEN_LIMIT) refl
  where
    inner : innermost 0 before ≡ first (open_behind before)
    inner = innermost-is before 0 ∙ first-is (open_behind before)

    many : open_count 0 before ≡ length state.frames
    many = open_count-is before ∙ sym (length-map (open_behind before) (λ (opened : Opened). opened.name)) ∙ ap (λ (names : List ElementName). length names) known.names ∙ length-map state.frames name_of

    by_once : nat_lt (open_count 0 before) OPEN_LIMIT ≡ true → StandsIn tag.name state.frames → (b : Bool) → (is_single tag.name && has_part tag.name 0 before) ≡ b
        → Says (cond b (why.Second tag.name (innermost 0 before)) (lacking tag token.span.start)) token state (open_behind before)
    by_once room stands true twice =
        let both = both-true (is_single tag.name) (has_part tag.name 0 before) twice in
        (inner, (tag, is, refl), has-part tag.name state.frames (sym (known.parts tag.name both.0 0) ∙ both.1))
    by_once room stands false once =
        let fits : nat_lt (length state.frames) OPEN_LIMIT ≡ true = ap (λ n. nat_lt n OPEN_LIMIT) (sym many) ∙ room in
        let may = may-stand tag.name state.frames stands (one_part (is_single tag.name) refl once) in
        says-lacking tag token state (open_behind before) is stands (fails tag state fits may stuck) tag.name refl
      where
        one_part : (b : Bool) → is_single tag.name ≡ b → (is_single tag.name && has_part tag.name 0 before) ≡ false → (is_single tag.name && has_at tag.name (slice_get state.frames 0)) ≡ false
        one_part true single e = ap (λ b. is_single tag.name && b) (sym (known.parts tag.name single 0)) ∙ e
        one_part false single e = rw single refl

    by_name : nat_lt (open_count 0 before) OPEN_LIMIT ≡ true → (b : Bool) → reasons.may_stand tag.name (innermost 0 before) ≡ b
        → Says (cond (not b) (why.Misplaced tag.name (innermost 0 before)) (cond (is_single tag.name && has_part tag.name 0 before) (why.Second tag.name (innermost 0 before)) (lacking tag token.span.start))) token state (open_behind before)
    by_name room true may = by_once room ((names-may tag.name (open_behind before) state.frames known.names).0 (ap (reasons.may_stand tag.name) (sym inner) ∙ may)) (is_single tag.name && has_part tag.name 0 before) refl
    by_name room false not_may = (inner, (tag, is, refl), by_reading (may_stand tag.name state.frames) refl)
      where
        by_reading : (b : Bool) → may_stand tag.name state.frames ≡ b → may_stand tag.name state.frames ≡ false
        by_reading false e = e
        by_reading true e =
            let may = (names-may tag.name (open_behind before) state.frames known.names).1 (stands-by_name tag.name state.frames e) in
            let clash : true ≡ false = sym may ∙ (ap (reasons.may_stand tag.name) (sym inner) ∙ not_may) in
            absurd (cc)

    by_room : (b : Bool) → nat_lt (open_count 0 before) OPEN_LIMIT ≡ b → Says (open_reason tag token.span.start before) token state (open_behind before)
    by_room false full = rw full (ltb-false (length state.frames) OPEN_LIMIT (ap (λ n. nat_lt n OPEN_LIMIT) (sym many) ∙ full))
    by_room true room = rw room (by_name room (reasons.may_stand tag.name (innermost 0 before)) refl)
