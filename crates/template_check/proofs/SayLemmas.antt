-- What the reason for a tag says is so.
use Rattle.std.proofs.Common.{◌≡◌, inl, ◌&&◌, Bool, true, false, not, cond, List, [], ◌∷◌, map, Option, Some, None, refl, sym, ◌∙◌, ap, subst}
use Rattle.std.specs.List.{slice_get, list_any}
use Rattle.esi_scanner.specs.declared.element_name.ElementName.{ElementName}
use Rattle.esi_scanner.specs.declared.element_name.ElementName.TheVariants as element
use Rattle.esi_scanner.specs.declared.token.Kind.TheVariants as kinds
use Rattle.esi_scanner.specs.declared.token.Token.{Token}
use Rattle.esi_tree.specs.Shown.{Branch}
use Rattle.esi_tree.specs.Reading.{Halves, Neither, AttemptAlone, ExceptAlone, Both, Frame, InInclude, InComment, InInline, InVars, InChoose, InWhen, InOtherwise, InTry, InAttempt, InExcept, State, put_in, stands_in_choose, stands_in_try, may_stand, name_of, is_same, is_when, lacks_attempt, lacks_except, child_of, left}
use Rattle.esi_tree.proofs.Runs.{same-self, same-is}
use Rattle.template_check.specs.declared.elements.Opened.{Opened}
use Rattle.template_check.specs.declared.reason.Reason.TheVariants as why
use Rattle.template_check.specs.OpenElements.{innermost, has_part}
use Rattle.template_check.specs.Reasons.{stands_in, is_single, ending, close_in, close_reason, ending_by}
use Rattle.template_check.specs.Refusals.{open_behind, first, has, has_branch, has_half, lacks, Ends, Says}
use Rattle.template_check.proofs.OpenLemmas.{innermost-is, first-is}
use Rattle.template_check.proofs.ReadLemmas.{StandsIn, Known, has_at}

not-true : (b : Bool) → not b ≡ false → b ≡ true
not-true true e = refl
not-true false e = absurd (cc)

-- what a try lacks, by whether it has its attempt
abbrev lacking_half : Bool → ElementName
lacking_half b = cond b element.Except element.Attempt

says-half : (halves : Halves) (opened : Opened) (token : Token) (state : State) (before : List Token) → opened.name ≡ element.Try → Ends opened (InTry halves) token state (open_behind before)
    → has_part element.Attempt 0 before ≡ has_half element.Attempt halves → lacks (lacking_half (has_half element.Attempt halves)) halves ≡ true → Says (ending opened before) token state (open_behind before)
says-half halves opened token state before named ends parts short =
    let P : ElementName → Type 0 = λ name. Says (ending_by name opened before) token state (open_behind before) in
    let Q : Bool → Type 0 = λ b. Says (why.NoHalf (lacking_half b) opened) token state (open_behind before) in
    subst P (sym named) (subst Q (sym parts) (InTry halves, ends, (halves, refl, short)))

-- what an element lacks at its end is what its reason tells
pub says-ending : (frame : Frame) (opened : Opened) (token : Token) (state : State) (before : List Token) → child_of frame ≡ None → opened.name ≡ name_of frame → Ends opened frame token state (open_behind before)
    → has_part element.Attempt 0 before ≡ has element.Attempt frame → Says (ending opened before) token state (open_behind before)
unfolding child_of
says-ending (InInclude include) opened token state before none named ends parts = absurd (cc)
says-ending InComment opened token state before none named ends parts = absurd (cc)
says-ending (InInline label content) opened token state before none named ends parts = absurd (cc)
says-ending (InVars content) opened token state before none named ends parts = absurd (cc)
says-ending (InWhen test content) opened token state before none named ends parts = absurd (cc)
says-ending (InOtherwise content) opened token state before none named ends parts = absurd (cc)
says-ending (InAttempt content) opened token state before none named ends parts = absurd (cc)
says-ending (InExcept content) opened token state before none named ends parts = absurd (cc)
says-ending (InChoose branches) opened token state before none named ends parts =
    let P : ElementName → Type 0 = λ name. Says (ending_by name opened before) token state (open_behind before) in
    subst P (sym named) (InChoose branches, ends, (branches, refl, by_when (list_any is_when branches) refl))
  where
    by_when : (b : Bool) → list_any is_when branches ≡ b → list_any is_when branches ≡ false
    by_when true e = absurd (cc)
    by_when false e = e
says-ending (InTry Neither) opened token state before none named ends parts = says-half Neither opened token state before named ends parts refl
says-ending (InTry (AttemptAlone attempt)) opened token state before none named ends parts = says-half (AttemptAlone attempt) opened token state before named ends parts refl
says-ending (InTry (ExceptAlone except)) opened token state before none named ends parts = says-half (ExceptAlone except) opened token state before named ends parts refl
says-ending (InTry (Both attempt except swapped)) opened token state before none named ends parts = absurd (cc)

-- an element that can't end gives nothing
pub left-none : (name : ElementName) (frame : Frame) (outer : List Frame) (content : List _) → left name (record { frames = frame ∷ outer; content = content }) ≡ None → name ≡ name_of frame → child_of frame ≡ None
unfolding left
left-none name frame outer content stuck named = by_child (child_of frame) refl
  where
    by_child : (o : Option _) → child_of frame ≡ o → child_of frame ≡ None
    by_child None e = e
    by_child (Some child) e =
        let goes : left name (record { frames = frame ∷ outer; content = content }) ≡ Some (put_in child outer content) = rw (named, same-self (name_of frame), e) refl in
        absurd (cc)

-- of a closing tag
pub says-close : (name : ElementName) (token : Token) (before : List Token) (state : State) → token.kind ≡ kinds.Close name → Known before state.frames → left name state ≡ None
    → Says (close_reason name before) token state (open_behind before)
says-close name token before state is known stuck = by_open (open_behind before) state.frames refl refl
  where
    by_open : (elements : List Opened) (frames : List Frame) → open_behind before ≡ elements → state.frames ≡ frames → Says (close_reason name before) token state (open_behind before)
    by_open [] [] e f =
        let inner : innermost 0 before ≡ None = innermost-is before 0 ∙ first-is (open_behind before) ∙ ap first e in
        rw inner (is, f, e)
    by_open [] (frame ∷ outer) e f = let clash : [] ≡ name_of frame ∷ map name_of outer = sym (ap (map (λ (o : Opened). o.name)) e) ∙ known.names ∙ ap (map name_of) f in absurd (cc)
    by_open (opened ∷ elements) [] e f = let clash : opened.name ∷ map (λ (o : Opened). o.name) elements ≡ [] = sym (ap (map (λ (o : Opened). o.name)) e) ∙ known.names ∙ ap (map name_of) f in absurd (cc)
    by_open (opened ∷ elements) (frame ∷ outer) e f =
        let inner : innermost 0 before ≡ Some opened = innermost-is before 0 ∙ first-is (open_behind before) ∙ ap first e in
        let same : opened.name ∷ map (λ (o : Opened). o.name) elements ≡ name_of frame ∷ map name_of outer = sym (ap (map (λ (o : Opened). o.name)) e) ∙ known.names ∙ ap (map name_of) f in
        let named : opened.name ≡ name_of frame = cc in
        rw inner (by_same (is_same opened.name name) refl named)
      where
        by_same : (b : Bool) → is_same opened.name name ≡ b → opened.name ≡ name_of frame → Says (close_in name (Some opened) before) token state (open_behind before)
        by_same false differ named = rw differ (is, ap first e, differ)
        by_same true same named =
            let here : name ≡ name_of frame = sym (same-is opened.name name same) ∙ named in
            let none : child_of frame ≡ None = left-none name frame outer state.content (ap (λ frames. left name (record { frames = frames; content = state.content })) (sym f) ∙ stuck) here in
            let parts : has_part element.Attempt 0 before ≡ has element.Attempt frame = known.parts element.Attempt refl 0 ∙ ap (λ frames. has_at element.Attempt (slice_get frames 0)) f in
            rw same (says-ending frame opened token state before none named (inl (is ∙ ap kinds.Close here, ap first e, (outer, f))) parts)

-- where the names allow it, and no part comes twice, an element may stand
may-choose : (name : ElementName) (branches : List Branch) → stands_in name element.Choose ≡ true → (is_single name && has_branch name branches) ≡ false → stands_in_choose name branches ≡ true
may-choose element.When branches stands once = refl
may-choose element.Otherwise branches stands once = ap not once
may-choose _ branches stands once = absurd (cc)

may-try : (name : ElementName) (halves : Halves) → stands_in name element.Try ≡ true → (is_single name && has_half name halves) ≡ false → stands_in_try name halves ≡ true
may-try element.Attempt halves stands once = not-true (lacks_attempt halves) once
may-try element.Except halves stands once = not-true (lacks_except halves) once
may-try _ halves stands once = absurd (cc)

pub may-stand : (name : ElementName) (frames : List Frame) → StandsIn name frames → (is_single name && has_at name (slice_get frames 0)) ≡ false → may_stand name frames ≡ true
may-stand name [] stands once = stands
may-stand name (InInclude include ∷ outer) stands once = absurd (cc)
may-stand name (InComment ∷ outer) stands once = absurd (cc)
may-stand name (InInline label content ∷ outer) stands once = stands
may-stand name (InVars content ∷ outer) stands once = stands
may-stand name (InChoose branches ∷ outer) stands once = may-choose name branches stands once
may-stand name (InWhen test content ∷ outer) stands once = stands
may-stand name (InOtherwise content ∷ outer) stands once = stands
may-stand name (InTry halves ∷ outer) stands once = may-try name halves stands once
may-stand name (InAttempt content ∷ outer) stands once = stands
may-stand name (InExcept content ∷ outer) stands once = stands
