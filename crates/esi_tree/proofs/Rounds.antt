-- An element that is read from its opening tag to its end.
use Rattle.std.proofs.Common.{◌≡◌, ◌⊎◌, inl, inr, ℕ, Bool, true, false, List, [], ◌∷◌, ◌++◌, Some, refl, sym, ◌∙◌, ap}
use Rattle.esi_scanner.specs.declared.attribute.Attribute.{Attribute}
use Rattle.esi_scanner.specs.declared.element_name.ElementName.{ElementName}
use Rattle.esi_scanner.specs.declared.element_name.ElementName.TheVariants as element
use Rattle.esi_scanner.specs.declared.tag.Tag.{Tag}
use Rattle.esi_scanner.specs.Bytes.{◌>>=◌}
use Rattle.esi_expr.specs.Tree.{Test}
use Rattle.esi_tree.specs.declared.include.Include.{Include}
use Rattle.esi_tree.specs.Tree.{Element}
use Rattle.esi_tree.specs.Items.{Item, Text, Open, Close, Remove, Block}
use Rattle.esi_tree.specs.Attributes.{include_of, when_test, inline_name, is_white}
use Rattle.esi_tree.specs.Template.{AreWhite, AfterWhite}
use Rattle.esi_tree.specs.Reading.{Frame, InInclude, InInline, InWhen, State, Child, AnElement, put, is_run, in_vars, text_element, after_text, after_remove, may_stand, opened_by, inside, entered, name_of, child_of, left}
use Rattle.esi_tree.specs.Tree as tree
use Rattle.esi_tree.proofs.Runs.{run, run-after, run-one, entered-is, opened-is, left-is}

-- the tag, the content and the end, or a closed tag alone
abbrev pub Shape : Tag → ElementName → List Item → List Item → Type 0
Shape tag name content items =
    ((tag.closed ≡ true) × (content ≡ []) × (items ≡ Open tag ∷ []))
    ⊎ ((tag.closed ≡ false) × (items ≡ Open tag ∷ (content ++ Close name ∷ [])))

pub round : (tag : Tag) (name : ElementName) (content items : List Item) (frame last : Frame) (child : Child) (state : State)
    → tag.name ≡ name → may_stand name state.frames ≡ true → opened_by name tag.attributes ≡ Some frame → name ≡ name_of last
    → run content (inside frame state) ≡ Some (inside last state) → child_of last ≡ Some child → Shape tag name content items
    → run items state ≡ Some (put child state)
round tag name content items frame last child state named allowed opens same reads is shape = elim shape [
  | inl closed ↦
      let whole : run (Open tag ∷ []) state ≡ Some (put child state) =
      run-one (Open tag) [] state (put child state)
      (opened-is tag state (inside frame state) true closed.0 enters
      ∙ ap (λ o. o >>= λ within. left tag.name within) (ap (λ us. run us (inside frame state)) (sym closed.1) ∙ reads)
      ∙ left-is tag.name last child state (named ∙ same) is) in
      ap (λ us. run us state) closed.2 ∙ whole
  | inr unclosed ↦
      ap (λ us. run us state) unclosed.1
      ∙ run-one (Open tag) (content ++ Close name ∷ []) state (inside frame state) (opened-is tag state (inside frame state) false unclosed.0 enters)
      ∙ run-after content (Close name ∷ []) (inside frame state) (inside last state) reads
      ∙ run-one (Close name) [] (inside last state) (put child state) (left-is name last child state same is)
]
  where
    enters : entered tag.name tag.attributes state ≡ Some (inside frame state)
    enters = entered-is tag.name tag.attributes state frame (ap (λ n. may_stand n state.frames) named ∙ allowed) (ap (λ n. opened_by n tag.attributes) named ∙ opens)

pub text-run : (bytes : List ℕ) (state : State) (vars : Bool) → is_run state.frames ≡ true → in_vars state.frames ≡ vars → after_text bytes state ≡ Some (put (AnElement (text_element vars bytes)) state)
unfolding after_text
text-run bytes state vars top is = rw (top, is) refl

pub remove-run : (state : State) → is_run state.frames ≡ true → after_remove state ≡ Some (put (AnElement tree.Nothing) state)
unfolding after_remove
remove-run state top = rw top refl

white-text : (bytes : List ℕ) (state : State) → is_run state.frames ≡ false → is_white bytes ≡ true → after_text bytes state ≡ Some state
unfolding after_text
white-text bytes state none white = rw (none, white) refl

-- where no run stands, white text changes nothing
pub white-run : (items : List Item) (state : State) → is_run state.frames ≡ false → AreWhite items → run items state ≡ Some state
white-run [] state none white = refl
white-run (Text bytes ∷ items) state none white = run-one (Text bytes) items state state (white-text bytes state none white.0) ∙ white-run items state none white.1
white-run (Open tag ∷ items) state none white = absurd white.0
white-run (Close name ∷ items) state none white = absurd white.0
white-run (Remove ∷ items) state none white = absurd white.0
white-run (Block ∷ items) state none white = absurd white.0

-- white text, a part, and a rest
pub after_white-run : (items : List Item) (P Q : List Item → Type 0) (is : AfterWhite items P Q) (state middle last : State) → is_run state.frames ≡ false
    → run is.second.front state ≡ Some middle → run is.second.back middle ≡ Some last → run items state ≡ Some last
after_white-run items P Q is state middle last none first second =
    ap (λ us. run us state) is.joined
    ∙ run-after is.front is.back state state (white-run is.front state none is.first)
    ∙ ap (λ us. run us state) is.second.joined
    ∙ run-after is.second.front is.second.back state middle first
    ∙ second

pub opens-include : (include : Include) (attributes : List Attribute) → include_of attributes ≡ Some include → opened_by element.Include attributes ≡ Some (InInclude include)
unfolding opened_by
opens-include include attributes is = rw is refl

pub opens-inline : (name : List ℕ) (attributes : List Attribute) → inline_name attributes ≡ Some name → opened_by element.Inline attributes ≡ Some (InInline name [])
unfolding opened_by
opens-inline name attributes is = rw is refl

pub opens-when : (test : Test) (attributes : List Attribute) → when_test attributes ≡ Some test → opened_by element.When attributes ≡ Some (InWhen test [])
unfolding opened_by
opens-when test attributes is = rw is refl
