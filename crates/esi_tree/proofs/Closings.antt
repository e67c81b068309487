-- What has been read can be completed to a template.
use Rattle.std.proofs.Common.{◌≡◌, inl, Bool, true, false, ◌||◌, List, [], ◌∷◌, ◌++◌, Some, None, refl, sym, ◌∙◌, ap, subst, append_assoc}
use Rattle.std.proofs.lemmas.List.{append-nil}
use Rattle.std.proofs.lemmas.List.Folds.{list_any-append}
use Rattle.std.specs.List.{list_any}
use Rattle.esi_scanner.specs.declared.element_name.ElementName.{ElementName}
use Rattle.esi_scanner.specs.declared.element_name.ElementName.TheVariants as element
use Rattle.esi_scanner.specs.declared.tag.Tag.{Tag}
use Rattle.esi_tree.specs.Tree as tree
use Rattle.esi_tree.specs.Tree.{Element, Elements, End}
use Rattle.esi_tree.specs.Shown.{row, Branch, branch_row}
use Rattle.esi_tree.specs.Items.{Item, Open, Close}
use Rattle.esi_tree.specs.Template.{struck, IsPart, IsWhen, IsRun}
use Rattle.esi_tree.specs.Reading.{Halves, Neither, AttemptAlone, ExceptAlone, Both, Frame, InInclude, InComment, InInline, InVars, InChoose, InWhen, InOtherwise, InTry, InAttempt, InExcept, Child, AnElement, ABranch, AnAttempt, AnExcept, grown, put_in, in_vars, is_when, name_of, child_of}
use Rattle.esi_tree.proofs.Runs.{struck-append}
use Rattle.esi_tree.proofs.Places.{emptied}
use Rattle.esi_tree.proofs.Inside.{Inside, BeginBranches, IsHalves, branch_with, push-branch, halves-attempt, halves-except}
use Rattle.esi_tree.proofs.ReadableTest.{readable}
use Rattle.esi_tree.proofs.Sound.{Reads, ReadsTo, reads-more, reads-end}

-- what an open element lacks before its end
pub record Completes (vars : Bool) (frame : Frame) (inner : List Item) : Type 0 where
  pub more : List Item
  pub last : Frame
  pub child : Child
  pub within : Inside vars last (inner ++ more)
  pub gives : child_of last ≡ Some child
  pub named : name_of last ≡ name_of frame
  pub empty : emptied last ≡ emptied frame
  pub plain : struck more ≡ more

-- nothing
lacks-nothing : (vars : Bool) (frame : Frame) (inner : List Item) (child : Child) → child_of frame ≡ Some child → Inside vars frame inner → Completes vars frame inner
lacks-nothing vars frame inner child gives inside =
    let P : List Item → Type 0 = λ us. Inside vars frame us in
    record { more = []; last = frame; child = child; within = subst P (sym (append-nil inner)) inside; gives = gives; named = refl; empty = refl; plain = refl }

-- a closed tag
abbrev closed_tag : ElementName → Tag
closed_tag name = record { name = name; attributes = []; closed = true }

-- a closed tag of a `when`
abbrev when_tag : Tag
when_tag = record { name = element.When; attributes = readable.attributes; closed = true }

closed-part : (vars : Bool) (name : ElementName) → IsPart name (IsRun vars End) (Open (closed_tag name) ∷ [])
closed-part vars name = record { tag = closed_tag name; content = []; named = refl; fits = refl; shape = inl (refl, refl, refl) }

closed-when : (vars : Bool) → IsWhen readable.test (IsRun vars End) (Open when_tag ∷ [])
closed-when vars = record { tag = when_tag; content = []; named = refl; fits = (readable.is, refl); shape = inl (refl, refl, refl) }

choose-gives : (bs : List Branch) → list_any is_when bs ≡ true → child_of (InChoose bs) ≡ Some (AnElement (tree.Choose (branch_row bs)))
unfolding child_of
choose-gives bs e = rw e refl

completes-choose : (vars : Bool) (bs : List Branch) (inner : List Item) → BeginBranches vars bs inner → Completes vars (InChoose bs) inner
completes-choose vars bs inner inside = by_when (list_any is_when bs) refl
  where
    by_when : (b : Bool) → list_any is_when bs ≡ b → Completes vars (InChoose bs) inner
    by_when true has = lacks-nothing vars (InChoose bs) inner (AnElement (tree.Choose (branch_row bs))) (choose-gives bs has) inside
    by_when false none =
        let branch = branch_with (Some readable.test) End in
        record {
          more = Open when_tag ∷ [];
          last = InChoose (bs ++ branch ∷ []);
          child = AnElement (tree.Choose (branch_row (bs ++ branch ∷ [])));
          within = push-branch vars bs (Some readable.test) End inner (Open when_tag ∷ []) refl (closed-when vars) inside;
          gives = choose-gives (bs ++ branch ∷ []) (list_any-append is_when bs (branch ∷ []) ∙ ap (λ b. b || true) none);
          named = refl;
          empty = refl;
          plain = refl;
        }

completes-try : (vars : Bool) (halves : Halves) (inner : List Item) → IsHalves vars halves inner → Completes vars (InTry halves) inner
unfolding child_of
completes-try vars Neither inner inside =
    let one = Open (closed_tag element.Attempt) ∷ [] in
    let other = Open (closed_tag element.Except) ∷ [] in
    let P : List Item → Type 0 = λ us. IsHalves vars (Both End End false) us in
    let first = halves-attempt vars End Neither inner one refl (closed-part vars element.Attempt) inside in
    record {
      more = Open (closed_tag element.Attempt) ∷ Open (closed_tag element.Except) ∷ [];
      last = InTry (Both End End false);
      child = AnElement (tree.Try End End false);
      within = subst P (append_assoc inner one other) (halves-except vars End (AttemptAlone End) (inner ++ one) other refl (closed-part vars element.Except) first);
      gives = refl;
      named = refl;
      empty = refl;
      plain = refl;
    }
completes-try vars (AttemptAlone attempt) inner inside = record {
  more = Open (closed_tag element.Except) ∷ [];
  last = InTry (Both attempt End false);
  child = AnElement (tree.Try attempt End false);
  within = halves-except vars End (AttemptAlone attempt) inner (Open (closed_tag element.Except) ∷ []) refl (closed-part vars element.Except) inside;
  gives = refl;
  named = refl;
  empty = refl;
  plain = refl;
}
completes-try vars (ExceptAlone except) inner inside = record {
  more = Open (closed_tag element.Attempt) ∷ [];
  last = InTry (Both End except true);
  child = AnElement (tree.Try End except true);
  within = halves-attempt vars End (ExceptAlone except) inner (Open (closed_tag element.Attempt) ∷ []) refl (closed-part vars element.Attempt) inside;
  gives = refl;
  named = refl;
  empty = refl;
  plain = refl;
}
completes-try vars (Both attempt except swapped) inner inside = lacks-nothing vars (InTry (Both attempt except swapped)) inner (AnElement (tree.Try attempt except swapped)) refl inside

completes : (vars : Bool) (frame : Frame) (inner : List Item) → Inside vars frame inner → Completes vars frame inner
unfolding child_of
completes vars (InInclude include) inner inside = lacks-nothing vars (InInclude include) inner (AnElement (tree.Include include)) refl inside
completes vars InComment inner inside = lacks-nothing vars InComment inner (AnElement tree.Nothing) refl inside
completes vars (InInline label content) inner inside = lacks-nothing vars (InInline label content) inner (AnElement (tree.Inline label (row content))) refl inside
completes vars (InVars content) inner inside = lacks-nothing vars (InVars content) inner (AnElement (tree.Vars (row content))) refl inside
completes vars (InChoose bs) inner inside = completes-choose vars bs inner inside
completes vars (InWhen test content) inner inside = lacks-nothing vars (InWhen test content) inner (ABranch (branch_with (Some test) (row content))) refl inside
completes vars (InOtherwise content) inner inside = lacks-nothing vars (InOtherwise content) inner (ABranch (branch_with None (row content))) refl inside
completes vars (InTry halves) inner inside = completes-try vars halves inner inside
completes vars (InAttempt content) inner inside = lacks-nothing vars (InAttempt content) inner (AnAttempt (row content)) refl inside
completes vars (InExcept content) inner inside = lacks-nothing vars (InExcept content) inner (AnExcept (row content)) refl inside

-- what is still to come, and the tree of the whole
pub record Closes (items : List Item) : Type 0 where
  pub more : List Item
  pub t : Elements
  pub shape : IsRun false t (items ++ more)
  pub plain : struck more ≡ more

closes-before : (us ms : List Item) → struck ms ≡ ms → Closes (us ++ ms) → Closes us
closes-before us ms plain rest =
    let P : List Item → Type 0 = λ vs. IsRun false rest.t vs in
    record {
      more = ms ++ rest.more;
      t = rest.t;
      shape = subst P (append_assoc us ms rest.more) rest.shape;
      plain = struck-append ms rest.more ∙ ap (λ vs. vs ++ struck rest.more) plain ∙ ap (λ vs. ms ++ vs) rest.plain;
    }

closes-page : (content : List Element) (us : List Item) → Reads [] content us → Closes us
closes-page content us read =
    let P : List Item → Type 0 = λ vs. IsRun false (row content) vs in
    record { more = []; t = row content; shape = subst P (sym (append-nil us)) read; plain = refl }

-- what the innermost element lacks, and its end
closes-one : (frame : Frame) (outer : List Frame) (content : List Element) (us : List Item) → Reads (frame ∷ outer) content us → ((child : Child) (vs : List Item) → ReadsTo (put_in child outer content) vs → Closes vs) → Closes us
closes-one frame outer content us read rest =
    let lacks = completes (in_vars outer) frame read.inner read.within in
    let now = reads-more frame lacks.last outer content us lacks.more read lacks.named lacks.empty lacks.within in
    let close = Close (name_of lacks.last) ∷ [] in
    closes-before us lacks.more lacks.plain
    (closes-before (us ++ lacks.more) close refl (rest lacks.child ((us ++ lacks.more) ++ close) (reads-end lacks.last lacks.child outer content (us ++ lacks.more) lacks.gives now)))

closes-all : (outer : List Frame) (frame : Frame) (content : List Element) (us : List Item) → Reads (frame ∷ outer) content us → Closes us
closes-all [] frame content us read = closes-one frame [] content us read (λ child vs now. closes-page (put_in child [] content).content vs now)
closes-all (next ∷ outer) frame content us read = closes-one frame (next ∷ outer) content us read (λ child vs now. closes-all outer (grown child next) content vs now)

pub closing : (frames : List Frame) (content : List Element) (us : List Item) → Reads frames content us → Closes us
closing [] content us read = closes-page content us read
closing (frame ∷ outer) content us read = closes-all outer frame content us read
