-- What is read is what the state says.
use Rattle.std.proofs.Common.{◌≡◌, inl, inr, ℕ, Bool, true, false, cond, List, [], ◌∷◌, ◌++◌, Some, None, unwrap_or, refl, sym, ◌∙◌, ap, subst, append_assoc}
use Rattle.std.proofs.lemmas.List.{append-nil}
use Rattle.std.proofs.lemmas.Option.{cond_some, option_and_then_some}
use Rattle.esi_scanner.specs.declared.element_name.ElementName.{ElementName}
use Rattle.esi_scanner.specs.declared.tag.Tag.{Tag}
use Rattle.esi_tree.specs.Tree as tree
use Rattle.esi_tree.specs.Tree.{Element}
use Rattle.esi_tree.specs.Shown.{row}
use Rattle.esi_tree.specs.Attributes.{is_white}
use Rattle.esi_tree.specs.Items.{Item, Text, Open, Close, Remove, Block}
use Rattle.esi_tree.specs.Template.{struck, AreWhite, IsElement, IsRun}
use Rattle.esi_tree.specs.Reading.{Frame, State, Child, AnElement, ABranch, AnAttempt, AnExcept, grown, put_in, is_run, in_vars, text_element, after_text, after_remove, may_stand, opened_by, inside, name_of, child_of, left}
use Rattle.esi_tree.proofs.Runs.{run, taken, Enters, opened-inverts, left-inverts}
use Rattle.esi_tree.proofs.Places.{emptied, keeps}
use Rattle.esi_tree.proofs.Inside.{IsChild, Fits, Inside, branch-no_run, run-push, inside-white, inside-push}
use Rattle.esi_tree.proofs.Ends.{fresh, whole, fits-child}

-- an element that is open: what stood before its tag, its tag, and what has been read inside
pub record IsOpened (frame : Frame) (outer : List Frame) (items : List Item) (Before : List Item → Type 0) : Type 0 where
  pub front : List Item
  pub tag : Tag
  pub inner : List Item
  pub joined : items ≡ front ++ Open tag ∷ inner
  pub before : Before front
  pub allowed : may_stand (name_of frame) outer ≡ true
  pub named : tag.name ≡ name_of frame
  pub unclosed : tag.closed ≡ false
  pub says : opened_by (name_of frame) tag.attributes ≡ Some (emptied frame)
  pub within : Inside (in_vars outer) frame inner

-- which items have been read, in a state
abbrev pub Reads : List Frame → List Element → List Item → Type 0
Reads [] content items = IsRun false (row content) items
Reads (frame ∷ outer) content items = IsOpened frame outer items (λ front. Reads outer content front)

abbrev pub ReadsTo : State → List Item → Type 0
ReadsTo state items = Reads state.frames state.content items

carried : (items : List Item) (state next : State) → state ≡ next → ReadsTo state items → ReadsTo next items
carried items state next same is =
    let P : State → Type 0 = λ s. ReadsTo s items in
    subst P same is

pub moved : (state : State) (items others : List Item) → items ≡ others → ReadsTo state items → ReadsTo state others
moved state items others e is =
    let P : List Item → Type 0 = λ us. ReadsTo state us in
    subst P e is

-- more has been read inside the innermost element
pub reads-more : (frame more : Frame) (outer : List Frame) (content : List Element) (us ws : List Item) (read : Reads (frame ∷ outer) content us) → name_of more ≡ name_of frame → emptied more ≡ emptied frame
    → Inside (in_vars outer) more (read.inner ++ ws) → Reads (more ∷ outer) content (us ++ ws)
reads-more frame more outer content us ws read named empty within = record {
  front = read.front;
  tag = read.tag;
  inner = read.inner ++ ws;
  joined = ap (λ vs. vs ++ ws) read.joined ∙ append_assoc read.front (Open read.tag ∷ read.inner) ws;
  before = read.before;
  allowed = ap (λ n. may_stand n outer) named ∙ read.allowed;
  named = read.named ∙ sym named;
  unclosed = read.unclosed;
  says = ap (λ n. opened_by n read.tag.attributes) named ∙ read.says ∙ ap Some (sym empty);
  within = within;
}

-- one child more
pub reads-put : (child : Child) (frames : List Frame) (content : List Element) (us ws : List Item) → Fits child frames → IsChild (in_vars frames) child ws → Reads frames content us → ReadsTo (put_in child frames content) (us ++ ws)
reads-put (AnElement e) [] content us ws fit is read = run-push false content e us ws read is
reads-put (ABranch branch) [] content us ws fit is read = absurd (branch-no_run branch.test fit)
reads-put (AnAttempt others) [] content us ws fit is read = absurd (cc)
reads-put (AnExcept others) [] content us ws fit is read = absurd (cc)
reads-put child (frame ∷ outer) content us ws fit is read =
    reads-more frame (grown child frame) outer content us ws read (keeps child frame).named (keeps child frame).empty (inside-push (in_vars outer) child frame outer read.inner ws fit is read.within)

-- white text where no run stands
reads-white : (frames : List Frame) (content : List Element) (us ws : List Item) → is_run frames ≡ false → AreWhite ws → Reads frames content us → Reads frames content (us ++ ws)
reads-white [] content us ws none white read = absurd (cc)
reads-white (frame ∷ outer) content us ws none white read = reads-more frame frame outer content us ws read refl refl (inside-white (in_vars outer) frame read.inner ws none white read.within)

text-is : (vars : Bool) (bytes : List ℕ) → IsElement vars (text_element vars bytes) (Text bytes ∷ [])
text-is true bytes = (refl, record { bytes = bytes; parts_are = refl; items_are = refl })
text-is false bytes = (refl, refl)

reads-text : (bytes : List ℕ) (state next : State) (us : List Item) → after_text bytes state ≡ Some next → ReadsTo state us → ReadsTo next (us ++ Text bytes ∷ [])
unfolding after_text
reads-text bytes state next us e read = by_place (is_run state.frames) refl e
  where
    by_place : (b : Bool) → is_run state.frames ≡ b → cond b (Some (put_in (AnElement (text_element (in_vars state.frames) bytes)) state.frames state.content)) (cond (is_white bytes) (Some state) None) ≡ Some next → ReadsTo next (us ++ Text bytes ∷ [])
    by_place true top e' =
        let child = AnElement (text_element (in_vars state.frames) bytes) in
        let more = put_in child state.frames state.content in
        carried (us ++ Text bytes ∷ []) more next (ap (λ o. unwrap_or o next) e') (reads-put child state.frames state.content us (Text bytes ∷ []) top (text-is (in_vars state.frames) bytes) read)
    by_place false none e' =
        let parts = cond_some (is_white bytes) state next e' in
        carried (us ++ Text bytes ∷ []) state next parts.1 (reads-white state.frames state.content us (Text bytes ∷ []) none (parts.0, tt) read)

reads-remove : (state next : State) (us : List Item) → after_remove state ≡ Some next → ReadsTo state us → ReadsTo next (us ++ Remove ∷ [])
unfolding after_remove
reads-remove state next us e read =
    let child = AnElement tree.Nothing in
    let more = put_in child state.frames state.content in
    let parts = cond_some (is_run state.frames) more next e in
    carried (us ++ Remove ∷ []) more next parts.1 (reads-put child state.frames state.content us (Remove ∷ []) parts.0 (inl refl) read)

-- the innermost element with its end
pub reads-end : (frame : Frame) (child : Child) (outer : List Frame) (content : List Element) (us : List Item) → child_of frame ≡ Some child → Reads (frame ∷ outer) content us → ReadsTo (put_in child outer content) (us ++ Close (name_of frame) ∷ [])
reads-end frame child outer content us is read =
    let close = Close (name_of frame) ∷ [] in
    let ws = Open read.tag ∷ (read.inner ++ close) in
    let all : IsChild (in_vars outer) child ws = whole (in_vars outer) frame child read.tag read.inner ws read.named read.says read.within is (inr (read.unclosed, refl)) in
    let same : read.front ++ ws ≡ us ++ close = sym (ap (λ vs. vs ++ close) read.joined ∙ append_assoc read.front (Open read.tag ∷ read.inner) close) in
    moved (put_in child outer content) (read.front ++ ws) (us ++ close) same (reads-put child outer content read.front ws (fits-child frame child outer is read.allowed) all read.before)

reads-close : (name : ElementName) (frames : List Frame) (content : List Element) (next : State) (us : List Item) → left name (record { frames = frames; content = content }) ≡ Some next → Reads frames content us → ReadsTo next (us ++ Close name ∷ [])
reads-close name frames content next us e read =
    let leaves = left-inverts name frames content next e in
    let P : List Frame → Type 0 = λ fs. Reads fs content us in
    let ended = reads-end leaves.frame leaves.child leaves.outer content us leaves.child_is (subst P leaves.frames_are read) in
    carried (us ++ Close name ∷ []) (put_in leaves.child leaves.outer content) next leaves.next_is
    (moved (put_in leaves.child leaves.outer content) (us ++ Close (name_of leaves.frame) ∷ []) (us ++ Close name ∷ []) (ap (λ n. us ++ Close n ∷ []) (sym leaves.named)) ended)

front-same : (a b : Frame) (xs ys : List Frame) → a ∷ xs ≡ b ∷ ys → a ≡ b
front-same a b xs ys e = cc

back-same : (a b : Frame) (xs ys : List Frame) → a ∷ xs ≡ b ∷ ys → xs ≡ ys
back-same a b xs ys e = cc

-- a closed tag of an element, and a tag that isn't closed
reads-closed : (tag : Tag) (frame : Frame) (state next : State) (us : List Item) → tag.closed ≡ true → may_stand tag.name state.frames ≡ true → opened_by tag.name tag.attributes ≡ Some frame → left tag.name (inside frame state) ≡ Some next → ReadsTo state us → ReadsTo next (us ++ Open tag ∷ [])
reads-closed tag frame state next us is allowed opens rest read =
    let begun = fresh tag.name tag.attributes frame opens in
    let leaves = left-inverts tag.name (frame ∷ state.frames) state.content next rest in
    let same_frame : frame ≡ leaves.frame = front-same frame leaves.frame state.frames leaves.outer leaves.frames_are in
    let same_outer : state.frames ≡ leaves.outer = back-same frame leaves.frame state.frames leaves.outer leaves.frames_are in
    let gives : child_of frame ≡ Some leaves.child = ap child_of same_frame ∙ leaves.child_is in
    let more = put_in leaves.child state.frames state.content in
    let may : may_stand (name_of frame) state.frames ≡ true = ap (λ n. may_stand n state.frames) (sym begun.named) ∙ allowed in
    let all : IsChild (in_vars state.frames) leaves.child (Open tag ∷ []) =
    whole (in_vars state.frames) frame leaves.child tag [] (Open tag ∷ []) begun.named begun.says (begun.starts (in_vars state.frames)) gives (inl (is, refl, refl)) in
    carried (us ++ Open tag ∷ []) more next (ap (λ fs. put_in leaves.child fs state.content) same_outer ∙ leaves.next_is)
    (reads-put leaves.child state.frames state.content us (Open tag ∷ []) (fits-child frame leaves.child state.frames gives may) all read)

reads-unclosed : (tag : Tag) (frame : Frame) (state : State) (us : List Item) → tag.closed ≡ false → may_stand tag.name state.frames ≡ true → opened_by tag.name tag.attributes ≡ Some frame → ReadsTo state us → ReadsTo (inside frame state) (us ++ Open tag ∷ [])
reads-unclosed tag frame state us is allowed opens read =
    let begun = fresh tag.name tag.attributes frame opens in
    record {
      front = us;
      tag = tag;
      inner = [];
      joined = refl;
      before = read;
      allowed = ap (λ n. may_stand n state.frames) (sym begun.named) ∙ allowed;
      named = begun.named;
      unclosed = is;
      says = begun.says;
      within = begun.starts (in_vars state.frames);
    }

reads-tag : (tag : Tag) (closed : Bool) (state within next : State) (us : List Item) → tag.closed ≡ closed → Enters tag.name tag.attributes state within → cond closed (left tag.name within) (Some within) ≡ Some next → ReadsTo state us → ReadsTo next (us ++ Open tag ∷ [])
reads-tag tag true state within next us is enters rest read =
    reads-closed tag enters.frame state next us is enters.allowed enters.opens (ap (λ s. left tag.name s) enters.within_is ∙ rest) read
reads-tag tag false state within next us is enters rest read =
    carried (us ++ Open tag ∷ []) (inside enters.frame state) next (enters.within_is ∙ ap (λ o. unwrap_or o next) rest) (reads-unclosed tag enters.frame state us is enters.allowed enters.opens read)

reads-one : (item : Item) (state next : State) (us : List Item) → taken item state ≡ Some next → ReadsTo state us → ReadsTo next (us ++ struck (item ∷ []))
reads-one (Text bytes) state next us e read = reads-text bytes state next us e read
reads-one (Open tag) state next us e read =
    let (within, enters, rest) = opened-inverts tag state next e in
    reads-tag tag tag.closed state within next us refl enters rest read
reads-one (Close name) state next us e read = reads-close name state.frames state.content next us e read
reads-one Remove state next us e read = reads-remove state next us e read
reads-one Block state next us e read = carried (us ++ []) state next (ap (λ o. unwrap_or o next) e) (moved state us (us ++ []) (sym (append-nil us)) read)

struck-cons : (item : Item) (items : List Item) → struck (item ∷ items) ≡ struck (item ∷ []) ++ struck items
struck-cons (Text bytes) items = refl
struck-cons (Open tag) items = refl
struck-cons (Close name) items = refl
struck-cons Remove items = refl
struck-cons Block items = refl

-- what is read is what the state says
pub reads-run : (items : List Item) (state final : State) (us : List Item) → run items state ≡ Some final → ReadsTo state us → ReadsTo final (us ++ struck items)
reads-run [] state final us e read = carried (us ++ []) state final (ap (λ o. unwrap_or o final) e) (moved state us (us ++ []) (sym (append-nil us)) read)
reads-run (item ∷ items) state final us e read =
    option_and_then_some (λ s. run items s) (taken item state) final e (λ next first rest.
    let same : (us ++ struck (item ∷ [])) ++ struck items ≡ us ++ struck (item ∷ items) = append_assoc us (struck (item ∷ [])) (struck items) ∙ ap (λ vs. us ++ vs) (sym (struck-cons item items)) in
    moved final ((us ++ struck (item ∷ [])) ++ struck items) (us ++ struck (item ∷ items)) same
    (reads-run items next final (us ++ struck (item ∷ [])) rest (reads-one item state next us first read)))
