-- What is a template is read as that.
use Rattle.std.proofs.Common.{◌≡◌, inl, inr, ℕ, Bool, true, false, not, ◌||◌, List, [], ◌∷◌, ◌++◌, Option, Some, None, refl, sym, ◌∙◌, ap, subst, append_assoc}
use Rattle.std.proofs.Math.Bool.{or-false}
use Rattle.std.proofs.lemmas.List.{append-nil}
use Rattle.std.proofs.lemmas.List.Folds.{list_any-append}
use Rattle.std.specs.List.{list_any}
use Rattle.esi_scanner.specs.declared.element_name.ElementName.TheVariants as element
use Rattle.esi_scanner.specs.declared.attribute.Attribute.{Attribute}
use Rattle.esi_expr.specs.Tree.{Test}
use Rattle.esi_tree.specs.declared.include.Include.{Include}
use Rattle.esi_tree.specs.Tree as tree
use Rattle.esi_tree.specs.Tree.{Element, Elements, End, Then, Branches, NoBranch, When}
use Rattle.esi_tree.specs.Shown.{Branch}
use Rattle.esi_tree.specs.Items.{Item, Text, Remove}
use Rattle.esi_tree.specs.Template.{struck, IsElement, IsRun, AreBranches}
use Rattle.esi_tree.specs.Reading.{Halves, Neither, AttemptAlone, ExceptAlone, Both, Frame, InInclude, InComment, InInline, InVars, InChoose, InWhen, InOtherwise, InTry, InAttempt, InExcept, State, start, AnElement, ABranch, AnAttempt, AnExcept, put, is_run, in_vars, is_otherwise, may_stand, opened_by, inside, child_of}
use Rattle.esi_tree.proofs.Runs.{run, run-after, run-one, run-struck}
use Rattle.esi_tree.proofs.Places.{put-is_run, put-in_vars, may_stand-run}
use Rattle.esi_tree.proofs.Fillings.{listed, row-listed, listed_branches, child-choose, page, put_all, put_all-page, run-filled}
use Rattle.esi_tree.proofs.Rounds.{round, text-run, remove-run, white-run, after_white-run, opens-include, opens-inline, opens-when}

child-vars : (t : Elements) → child_of (InVars (listed t)) ≡ Some (AnElement (tree.Vars t))
unfolding child_of
child-vars t = ap (λ u. Some (AnElement (tree.Vars u))) (row-listed t)

child-inline : (name : List ℕ) (t : Elements) → child_of (InInline name (listed t)) ≡ Some (AnElement (tree.Inline name t))
unfolding child_of
child-inline name t = ap (λ u. Some (AnElement (tree.Inline name u))) (row-listed t)

-- a branch of this test and content
abbrev branch_with : Option Test → Elements → Branch
branch_with test content = record { test = test; content = content }

child-when : (test : Test) (t : Elements) → child_of (InWhen test (listed t)) ≡ Some (ABranch (branch_with (Some test) t))
unfolding child_of
child-when test t = ap (λ u. Some (ABranch (branch_with (Some test) u))) (row-listed t)

child-otherwise : (t : Elements) → child_of (InOtherwise (listed t)) ≡ Some (ABranch (branch_with None t))
unfolding child_of
child-otherwise t = ap (λ u. Some (ABranch (branch_with None u))) (row-listed t)

child-attempt : (t : Elements) → child_of (InAttempt (listed t)) ≡ Some (AnAttempt t)
unfolding child_of
child-attempt t = ap (λ u. Some (AnAttempt u)) (row-listed t)

child-except : (t : Elements) → child_of (InExcept (listed t)) ≡ Some (AnExcept t)
unfolding child_of
child-except t = ap (λ u. Some (AnExcept u)) (row-listed t)

child-try : (attempt except : Elements) (swapped : Bool) → child_of (InTry (Both attempt except swapped)) ≡ Some (AnElement (tree.Try attempt except swapped))
unfolding child_of
child-try attempt except swapped = refl

child-include : (include : Include) → child_of (InInclude include) ≡ Some (AnElement (tree.Include include))
unfolding child_of
child-include include = refl

child-comment : child_of InComment ≡ Some (AnElement tree.Nothing)
unfolding child_of
child-comment = refl

opens-choose : (attributes : List Attribute) → opened_by element.Choose attributes ≡ Some (InChoose [])
unfolding opened_by
opens-choose attributes = refl

opens-otherwise : (attributes : List Attribute) → opened_by element.Otherwise attributes ≡ Some (InOtherwise [])
unfolding opened_by
opens-otherwise attributes = refl

opens-try : (attributes : List Attribute) → opened_by element.Try attributes ≡ Some (InTry Neither)
unfolding opened_by
opens-try attributes = refl

opens-attempt : (attributes : List Attribute) → opened_by element.Attempt attributes ≡ Some (InAttempt [])
unfolding opened_by
opens-attempt attributes = refl

opens-except : (attributes : List Attribute) → opened_by element.Except attributes ≡ Some (InExcept [])
unfolding opened_by
opens-except attributes = refl

opens-vars : (attributes : List Attribute) → opened_by element.Vars attributes ≡ Some (InVars [])
unfolding opened_by
opens-vars attributes = refl

opens-comment : (attributes : List Attribute) → opened_by element.Comment attributes ≡ Some InComment
unfolding opened_by
opens-comment attributes = refl

-- whether an otherwise stands among branches, with one more
more-when : (before : List Branch) (test : Test) (content : Elements) (free : Bool) → list_any is_otherwise before ≡ not free → list_any is_otherwise (before ++ branch_with (Some test) content ∷ []) ≡ not free
more-when before test content free is = list_any-append is_otherwise before (branch_with (Some test) content ∷ []) ∙ or-false (list_any is_otherwise before) ∙ is

more-otherwise : (before : List Branch) (content : Elements) → list_any is_otherwise before ≡ false → list_any is_otherwise (before ++ branch_with None content ∷ []) ≡ true
more-otherwise before content is = list_any-append is_otherwise before (branch_with None content ∷ []) ∙ ap (λ b. b || true) is

may-otherwise : (before : List Branch) (frames : List Frame) → list_any is_otherwise before ≡ false → may_stand element.Otherwise (InChoose before ∷ frames) ≡ true
may-otherwise before frames is = ap not is

more-branches : (before : List Branch) (branch : Branch) (rest : Branches) (state : State) → ◌≡◌ {A = Option State} (Some (inside (InChoose ((before ++ branch ∷ []) ++ listed_branches rest)) state)) (Some (inside (InChoose (before ++ branch ∷ listed_branches rest)) state))
more-branches before branch rest state = ap (λ bs. Some (inside (InChoose bs) state)) (append_assoc before (branch ∷ []) (listed_branches rest))

mutual
  -- the items of an element add it
  pub element-run : (e : Element) (items : List Item) (state : State) → is_run state.frames ≡ true → IsElement (in_vars state.frames) e items → run items state ≡ Some (put (AnElement e) state)
  element-run (tree.Text bytes) items state top is =
      ap (λ us. run us state) is.1 ∙ run-one (Text bytes) [] state (put (AnElement (tree.Text bytes)) state) (text-run bytes state false top is.0)
  element-run (tree.VarsText parts) items state top is =
      ap (λ us. run us state) is.1.items_are
      ∙ run-one (Text is.1.bytes) [] state (put (AnElement (tree.VarsText parts)) state)
      (text-run is.1.bytes state true top is.0 ∙ ap (λ ps. Some (put (AnElement (tree.VarsText ps)) state)) is.1.parts_are)
  element-run (tree.Include include) items state top is =
      let frame = InInclude include in
      round is.tag element.Include is.content items frame frame (AnElement (tree.Include include)) state is.named (may_stand-run element.Include state.frames top)
      (opens-include include is.tag.attributes is.fits.1) refl (white-run is.content (inside frame state) refl is.fits.0) (child-include include) is.shape
  element-run (tree.Choose branches) items state top is =
      round is.tag element.Choose is.content items (InChoose []) (InChoose (listed_branches branches)) (AnElement (tree.Choose branches)) state is.named (may_stand-run element.Choose state.frames top)
      (opens-choose is.tag.attributes) refl (branches-run true branches is.content [] state refl is.fits.1) (child-choose branches is.fits.0) is.shape
  element-run (tree.Try attempt except false) items state top is =
      let one = is.fits.second.first in
      let other = is.fits.second.second.second.first in
      let at : Halves → State = λ halves. inside (InTry halves) state in
      let last = after_white-run is.fits.second.back _ _ is.fits.second.second (at (AttemptAlone attempt)) (at (Both attempt except false)) (at (Both attempt except false)) refl
      (round other.tag element.Except other.content is.fits.second.second.second.front (InExcept []) (InExcept (listed except)) (AnExcept except) (at (AttemptAlone attempt)) other.named refl (opens-except other.tag.attributes) refl
      (run-filled InExcept except other.content (at (AttemptAlone attempt)) (λ xs x. refl) (elements-run except other.content (inside (InExcept []) (at (AttemptAlone attempt))) refl other.fits)) (child-except except) other.shape)
      (white-run is.fits.second.second.second.back (at (Both attempt except false)) refl is.fits.second.second.second.second) in
      let both = after_white-run is.content _ _ is.fits (at Neither) (at (AttemptAlone attempt)) (at (Both attempt except false)) refl
      (round one.tag element.Attempt one.content is.fits.second.front (InAttempt []) (InAttempt (listed attempt)) (AnAttempt attempt) (at Neither) one.named refl (opens-attempt one.tag.attributes) refl
      (run-filled InAttempt attempt one.content (at Neither) (λ xs x. refl) (elements-run attempt one.content (inside (InAttempt []) (at Neither)) refl one.fits)) (child-attempt attempt) one.shape)
      last in
      round is.tag element.Try is.content items (InTry Neither) (InTry (Both attempt except false)) (AnElement (tree.Try attempt except false)) state is.named (may_stand-run element.Try state.frames top)
      (opens-try is.tag.attributes) refl both (child-try attempt except false) is.shape
  element-run (tree.Try attempt except true) items state top is =
      let one = is.fits.second.first in
      let other = is.fits.second.second.second.first in
      let at : Halves → State = λ halves. inside (InTry halves) state in
      let last = after_white-run is.fits.second.back _ _ is.fits.second.second (at (ExceptAlone except)) (at (Both attempt except true)) (at (Both attempt except true)) refl
      (round other.tag element.Attempt other.content is.fits.second.second.second.front (InAttempt []) (InAttempt (listed attempt)) (AnAttempt attempt) (at (ExceptAlone except)) other.named refl (opens-attempt other.tag.attributes) refl
      (run-filled InAttempt attempt other.content (at (ExceptAlone except)) (λ xs x. refl) (elements-run attempt other.content (inside (InAttempt []) (at (ExceptAlone except))) refl other.fits)) (child-attempt attempt) other.shape)
      (white-run is.fits.second.second.second.back (at (Both attempt except true)) refl is.fits.second.second.second.second) in
      let both = after_white-run is.content _ _ is.fits (at Neither) (at (ExceptAlone except)) (at (Both attempt except true)) refl
      (round one.tag element.Except one.content is.fits.second.front (InExcept []) (InExcept (listed except)) (AnExcept except) (at Neither) one.named refl (opens-except one.tag.attributes) refl
      (run-filled InExcept except one.content (at Neither) (λ xs x. refl) (elements-run except one.content (inside (InExcept []) (at Neither)) refl one.fits)) (child-except except) one.shape)
      last in
      round is.tag element.Try is.content items (InTry Neither) (InTry (Both attempt except true)) (AnElement (tree.Try attempt except true)) state is.named (may_stand-run element.Try state.frames top)
      (opens-try is.tag.attributes) refl both (child-try attempt except true) is.shape
  element-run (tree.Vars content) items state top is =
      round is.tag element.Vars is.content items (InVars []) (InVars (listed content)) (AnElement (tree.Vars content)) state is.named (may_stand-run element.Vars state.frames top)
      (opens-vars is.tag.attributes) refl
      (run-filled InVars content is.content state (λ xs x. refl) (elements-run content is.content (inside (InVars []) state) refl is.fits)) (child-vars content) is.shape
  element-run (tree.Inline name content) items state top is =
      round is.tag element.Inline is.content items (InInline name []) (InInline name (listed content)) (AnElement (tree.Inline name content)) state is.named (may_stand-run element.Inline state.frames top)
      (opens-inline name is.tag.attributes is.fits.0) refl
      (run-filled (InInline name) content is.content state (λ xs x. refl) (elements-run content is.content (inside (InInline name []) state) refl is.fits.1)) (child-inline name content) is.shape
  element-run tree.Nothing items state top (inl is) = ap (λ us. run us state) is ∙ run-one Remove [] state (put (AnElement tree.Nothing) state) (remove-run state top)
  element-run tree.Nothing items state top (inr is) =
      round is.tag element.Comment is.content items InComment InComment (AnElement tree.Nothing) state is.named (may_stand-run element.Comment state.frames top)
      (opens-comment is.tag.attributes) refl (white-run is.content (inside InComment state) refl is.fits) child-comment is.shape

  -- the items of a run add its elements
  pub elements-run : (t : Elements) (items : List Item) (state : State) → is_run state.frames ≡ true → IsRun (in_vars state.frames) t items → run items state ≡ Some (put_all (listed t) state)
  elements-run End items state top is = ap (λ us. run us state) is
  elements-run (Then first rest) items state top is =
      let vars = in_vars state.frames in
      let P : Bool → Type 0 = λ b. IsRun b rest is.back in
      let next = put (AnElement first) state in
      ap (λ us. run us state) is.joined
      ∙ run-after is.front is.back state next (element-run first is.front state top is.first)
      ∙ elements-run rest is.back next (put-is_run (AnElement first) state.frames state.content ∙ top) (subst P (sym (put-in_vars (AnElement first) state.frames state.content)) is.second)

  -- the items of branches add them to a choose
  branches-run : (free : Bool) (bs : Branches) (items : List Item) (before : List Branch) (state : State) → list_any is_otherwise before ≡ not free → AreBranches (in_vars state.frames) free bs items
      → run items (inside (InChoose before) state) ≡ Some (inside (InChoose (before ++ listed_branches bs)) state)
  branches-run free NoBranch items before state count is =
      white-run items (inside (InChoose before) state) refl is ∙ ap (λ bs. Some (inside (InChoose bs) state)) (sym (append-nil before))
  branches-run free (When test content rest) items before state count is =
      let one = is.second.first in
      let now = inside (InChoose before) state in
      let branch = branch_with (Some test) content in
      after_white-run items _ _ is now (inside (InChoose (before ++ branch ∷ [])) state) (inside (InChoose ((before ++ branch ∷ []) ++ listed_branches rest)) state) refl
      (round one.tag element.When one.content is.second.front (InWhen test []) (InWhen test (listed content)) (ABranch branch) now one.named refl (opens-when test one.tag.attributes one.fits.0) refl
      (run-filled (InWhen test) content one.content now (λ xs x. refl) (elements-run content one.content (inside (InWhen test []) now) refl one.fits.1)) (child-when test content) one.shape)
      (branches-run free rest is.second.back (before ++ branch ∷ []) state (more-when before test content free count) is.second.second)
      ∙ more-branches before branch rest state
  branches-run free (tree.Otherwise content rest) items before state count is =
      let one = is.1.second.first in
      let now = inside (InChoose before) state in
      let branch = branch_with None content in
      let none : list_any is_otherwise before ≡ false = count ∙ ap not is.0 in
      after_white-run items _ _ is.1 now (inside (InChoose (before ++ branch ∷ [])) state) (inside (InChoose ((before ++ branch ∷ []) ++ listed_branches rest)) state) refl
      (round one.tag element.Otherwise one.content is.1.second.front (InOtherwise []) (InOtherwise (listed content)) (ABranch branch) now one.named (may-otherwise before state.frames none) (opens-otherwise one.tag.attributes) refl
      (run-filled InOtherwise content one.content now (λ xs x. refl) (elements-run content one.content (inside (InOtherwise []) now) refl one.fits)) (child-otherwise content) one.shape)
      (branches-run false rest is.1.second.back (before ++ branch ∷ []) state (more-otherwise before content none) is.1.second.second)
      ∙ more-branches before branch rest state

-- a template is read whole
pub template-run : (t : Elements) (items : List Item) → IsRun false t (struck items) → run items start ≡ Some (page (listed t))
template-run t items is = sym (run-struck items start) ∙ elements-run t (struck items) start refl is ∙ ap Some (put_all-page (listed t) [])
