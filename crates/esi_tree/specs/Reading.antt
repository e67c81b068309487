-- The tree of a text, read token by token from the left.
use Rattle.std.specs.Prelude.{◌≡◌, ℕ, Bool, true, false, not, nat_lt, List, [], ◌∷◌, ◌++◌, length, Option, Some, None, is_none, is_some, Result, Ok, Err, if◌then◌else◌}
use Rattle.std.specs.List.{list_any}
use Rattle.esi_scanner.specs.declared.attribute.Attribute.{Attribute}
use Rattle.esi_scanner.specs.declared.element_name.ElementName.{ElementName}
use Rattle.esi_scanner.specs.declared.element_name.ElementName.TheVariants as element
use Rattle.esi_scanner.specs.declared.tag.Tag.{Tag}
use Rattle.esi_scanner.specs.declared.token.Token.{Token}
use Rattle.esi_scanner.specs.Bytes.{◌>>=◌}
use Rattle.esi_scanner.specs.Scan.{scan_of}
use Rattle.esi_vars.specs.Parts.{parts_of}
use Rattle.esi_expr.specs.Tree.{Test}
use Rattle.esi_tree.specs.declared.include.Include.{Include}
use Rattle.esi_tree.specs.declared.open_elements.TheConstants.{OPEN_LIMIT}
use Rattle.esi_tree.specs.Tree as tree
use Rattle.esi_tree.specs.Tree.{Element, Elements}
use Rattle.esi_tree.specs.Shown.{row, Branch, branch_row}
use Rattle.esi_tree.specs.Items.{Item, Text, Open, Close, Remove, Block, item_of}
use Rattle.esi_tree.specs.Attributes.{include_of, when_test, inline_name, is_white}

-- the parts of a try that have been read
pub data Halves : Type 0 where
  Neither : Halves
  AttemptAlone : (attempt : Elements) → Halves
  ExceptAlone : (except : Elements) → Halves
  Both : (attempt : Elements) (except : Elements) (swapped : Bool) → Halves

-- an element whose end hasn't come yet, with what its tag says and what has been read inside
pub data Frame : Type 0 where
  InInclude : (include : Include) → Frame
  InComment : Frame
  InInline : (name : List ℕ) (content : List Element) → Frame
  InVars : (content : List Element) → Frame
  InChoose : (branches : List Branch) → Frame
  InWhen : (test : Test) (content : List Element) → Frame
  InOtherwise : (content : List Element) → Frame
  InTry : (halves : Halves) → Frame
  InAttempt : (content : List Element) → Frame
  InExcept : (content : List Element) → Frame

-- what has been read so far: the elements that are open, the innermost first, and the elements outside them
pub record State : Type 0 where
  pub frames : List Frame
  pub content : List Element

-- nothing has been read
abbrev pub start : State
start = record { frames = []; content = [] }

-- what an element passes on to the one around it: an element of a run, a branch of a choose, or a part of a try
pub data Child : Type 0 where
  AnElement : (e : Element) → Child
  ABranch : (branch : Branch) → Child
  AnAttempt : (content : Elements) → Child
  AnExcept : (content : Elements) → Child

-- a try's parts with the attempt added; a second one is never read
abbrev pub with_attempt : Elements → Halves → Halves
with_attempt content Neither = AttemptAlone content
with_attempt content (ExceptAlone except) = Both content except true
with_attempt content halves = halves

-- and with the except added
abbrev pub with_except : Elements → Halves → Halves
with_except content Neither = ExceptAlone content
with_except content (AttemptAlone attempt) = Both attempt content false
with_except content halves = halves

-- an open element with one more element in its run
abbrev pub with_element : Element → Frame → Frame
with_element e (InInline name content) = InInline name (content ++ e ∷ [])
with_element e (InVars content) = InVars (content ++ e ∷ [])
with_element e (InWhen test content) = InWhen test (content ++ e ∷ [])
with_element e (InOtherwise content) = InOtherwise (content ++ e ∷ [])
with_element e (InAttempt content) = InAttempt (content ++ e ∷ [])
with_element e (InExcept content) = InExcept (content ++ e ∷ [])
with_element e frame = frame

-- a choose with one more branch
abbrev pub with_branch : Branch → Frame → Frame
with_branch branch (InChoose branches) = InChoose (branches ++ branch ∷ [])
with_branch branch frame = frame

-- a try with one more part
abbrev pub with_half : (Halves → Halves) → Frame → Frame
with_half more (InTry halves) = InTry (more halves)
with_half more frame = frame

-- an open element with one more child
abbrev pub grown : Child → Frame → Frame
grown (AnElement e) frame = with_element e frame
grown (ABranch branch) frame = with_branch branch frame
grown (AnAttempt content) frame = with_half (with_attempt content) frame
grown (AnExcept content) frame = with_half (with_except content) frame

-- what is outside all elements, with one more child
abbrev pub grown_page : Child → List Element → List Element
grown_page (AnElement e) content = content ++ e ∷ []
grown_page child content = content

-- one more child in the innermost open element
abbrev pub put_in : Child → List Frame → List Element → State
put_in child [] content = record { frames = []; content = grown_page child content }
put_in child (frame ∷ outer) content = record { frames = grown child frame ∷ outer; content = content }

abbrev pub put : Child → State → State
put child state = put_in child state.frames state.content

-- whether any element may be in an open one
abbrev pub holds_run : Frame → Bool
holds_run (InInclude include) = false
holds_run InComment = false
holds_run (InChoose branches) = false
holds_run (InTry halves) = false
holds_run _ = true

-- whether any element may come at the innermost place
abbrev pub is_run : List Frame → Bool
is_run [] = true
is_run (frame ∷ outer) = holds_run frame

-- whether it is a vars element
abbrev pub is_vars : Frame → Bool
is_vars (InVars content) = true
is_vars _ = false

-- whether a vars element is open
abbrev pub in_vars : List Frame → Bool
in_vars frames = list_any is_vars frames

-- a run of text as an element
abbrev pub text_element : Bool → List ℕ → Element
text_element false bytes = tree.Text bytes
text_element true bytes = tree.VarsText (parts_of bytes)

-- what has been read after a run of text: where no run may be, only white space is allowed, and it adds nothing
unfoldable pub after_text : List ℕ → State → Option State
after_text bytes state =
    if is_run state.frames then Some (put (AnElement (text_element (in_vars state.frames) bytes)) state)
    else (if is_white bytes then Some state else None)

-- what has been read after a remove
unfoldable pub after_remove : State → Option State
after_remove state = if is_run state.frames then Some (put (AnElement tree.Nothing) state) else None

-- whether a branch is the otherwise
abbrev pub is_otherwise : Branch → Bool
is_otherwise branch = is_none branch.test

-- whether it is a `when`
abbrev pub is_when : Branch → Bool
is_when branch = is_some branch.test

-- whether a try's attempt may still come, and whether its except may
abbrev pub lacks_attempt : Halves → Bool
lacks_attempt Neither = true
lacks_attempt (ExceptAlone except) = true
lacks_attempt _ = false

abbrev pub lacks_except : Halves → Bool
lacks_except Neither = true
lacks_except (AttemptAlone attempt) = true
lacks_except _ = false

-- whether an element with this name may be in a run
abbrev pub stands_in_run : ElementName → Bool
stands_in_run element.Include = true
stands_in_run element.Inline = true
stands_in_run element.Choose = true
stands_in_run element.Try = true
stands_in_run element.Comment = true
stands_in_run element.Vars = true
stands_in_run _ = false

-- whether it may be in a choose with these branches
abbrev pub stands_in_choose : ElementName → List Branch → Bool
stands_in_choose element.When branches = true
stands_in_choose element.Otherwise branches = not (list_any is_otherwise branches)
stands_in_choose _ branches = false

-- whether it may be in a try with these parts
abbrev pub stands_in_try : ElementName → Halves → Bool
stands_in_try element.Attempt halves = lacks_attempt halves
stands_in_try element.Except halves = lacks_except halves
stands_in_try _ halves = false

-- whether it may be in an open element
abbrev pub stands_in : ElementName → Frame → Bool
stands_in name (InInclude include) = false
stands_in name InComment = false
stands_in name (InChoose branches) = stands_in_choose name branches
stands_in name (InTry halves) = stands_in_try name halves
stands_in name _ = stands_in_run name

-- whether it may come at the innermost place
abbrev pub may_stand : ElementName → List Frame → Bool
may_stand name [] = stands_in_run name
may_stand name (frame ∷ outer) = stands_in name frame

-- the element that a tag opens, if the tag has the attributes that it needs
unfoldable pub opened_by : ElementName → List Attribute → Option Frame
opened_by element.Include attributes = include_of attributes >>= λ include. Some (InInclude include)
opened_by element.Inline attributes = inline_name attributes >>= λ name. Some (InInline name [])
opened_by element.Choose attributes = Some (InChoose [])
opened_by element.When attributes = when_test attributes >>= λ test. Some (InWhen test [])
opened_by element.Otherwise attributes = Some (InOtherwise [])
opened_by element.Try attributes = Some (InTry Neither)
opened_by element.Attempt attributes = Some (InAttempt [])
opened_by element.Except attributes = Some (InExcept [])
opened_by element.Comment attributes = Some InComment
opened_by element.Remove attributes = None
opened_by element.Vars attributes = Some (InVars [])

-- what has been read, with one more element open
abbrev pub inside : Frame → State → State
inside frame state = record { frames = frame ∷ state.frames; content = state.content }

-- what has been read once a tag has opened its element
unfoldable pub entered : ElementName → List Attribute → State → Option State
entered name attributes state =
    if may_stand name state.frames then (opened_by name attributes >>= λ frame. Some (inside frame state)) else None

-- the name of an open element
abbrev pub name_of : Frame → ElementName
name_of (InInclude include) = element.Include
name_of InComment = element.Comment
name_of (InInline name content) = element.Inline
name_of (InVars content) = element.Vars
name_of (InChoose branches) = element.Choose
name_of (InWhen test content) = element.When
name_of (InOtherwise content) = element.Otherwise
name_of (InTry halves) = element.Try
name_of (InAttempt content) = element.Attempt
name_of (InExcept content) = element.Except

-- whether two names are the same
abbrev pub is_same : ElementName → ElementName → Bool
is_same element.Include element.Include = true
is_same element.Inline element.Inline = true
is_same element.Choose element.Choose = true
is_same element.When element.When = true
is_same element.Otherwise element.Otherwise = true
is_same element.Try element.Try = true
is_same element.Attempt element.Attempt = true
is_same element.Except element.Except = true
is_same element.Comment element.Comment = true
is_same element.Remove element.Remove = true
is_same element.Vars element.Vars = true
is_same _ _ = false

-- a choose with these branches, one of which must be a `when`
abbrev pub choose_of : List Branch → Option Child
choose_of branches = if list_any is_when branches then Some (AnElement (tree.Choose (branch_row branches))) else None

-- a try with these parts, both of which must be there
abbrev pub try_of : Halves → Option Child
try_of (Both attempt except swapped) = Some (AnElement (tree.Try attempt except swapped))
try_of _ = None

-- what an open element passes on at its end, if it may end
unfoldable pub child_of : Frame → Option Child
child_of (InInclude include) = Some (AnElement (tree.Include include))
child_of InComment = Some (AnElement tree.Nothing)
child_of (InInline name content) = Some (AnElement (tree.Inline name (row content)))
child_of (InVars content) = Some (AnElement (tree.Vars (row content)))
child_of (InChoose branches) = choose_of branches
child_of (InWhen test content) = Some (ABranch (record { test = Some test; content = row content }))
child_of (InOtherwise content) = Some (ABranch (record { test = None; content = row content }))
child_of (InTry halves) = try_of halves
child_of (InAttempt content) = Some (AnAttempt (row content))
child_of (InExcept content) = Some (AnExcept (row content))

-- what has been read once this element, the innermost, has ended by a name
abbrev pub ended_by : ElementName → Frame → State → Option State
ended_by name frame outside =
    if is_same name (name_of frame) then (child_of frame >>= λ child. Some (put child outside)) else None

abbrev pub left_in : ElementName → List Frame → List Element → Option State
left_in name [] content = None
left_in name (frame ∷ outer) content = ended_by name frame (record { frames = outer; content = content })

-- what has been read once the innermost element, which has this name, has ended
unfoldable pub left : ElementName → State → Option State
left name state = left_in name state.frames state.content

-- what has been read after an opening tag; a closed one counts as its end too
unfoldable pub after_tag : Tag → State → Option State
after_tag tag state =
    if nat_lt (length state.frames) OPEN_LIMIT
    then (entered tag.name tag.attributes state >>= λ within. if tag.closed then left tag.name within else Some within)
    else None

-- what has been read after one more item, if it can continue a template
unfoldable pub after : Item → State → Option State
after (Text bytes) state = after_text bytes state
after (Open tag) state = after_tag tag state
after (Close name) state = left name state
after Remove state = after_remove state
after Block state = Some state

-- at the end no element may be open
abbrev pub ended : List Frame → List Element → ℕ → Result Elements ℕ
ended [] content end = Ok (row content)
ended (frame ∷ outer) content end = Err end

-- what the other tokens result in, if this one can continue a template; else its place
abbrev pub then_read : (State → Result Elements ℕ) → ℕ → Option State → Result Elements ℕ
then_read others at None = Err at
then_read others at (Some state) = others state

-- The tree of the tokens that are still to be read: or the place of the first that can't continue a template, else
-- that of the text's end.
unfoldable pub read_from : List ℕ → List Token → State → Result Elements ℕ
read_from text [] state = ended state.frames state.content (length text)
read_from text (token ∷ tokens) state =
    then_read (λ next. read_from text tokens next) token.span.start (after (item_of text token) state)

-- the tree of a text's tokens, or the place of the fault
unfoldable pub tree_of_tokens : List ℕ → List Token → Result Elements ℕ
tree_of_tokens text tokens = read_from text tokens start

-- the tree of a text with these tokens, or the place at which it has none
abbrev pub of_tokens : List ℕ → Result (List Token) ℕ → Result Elements ℕ
of_tokens text (Ok tokens) = tree_of_tokens text tokens
of_tokens text (Err at) = Err at

-- the tree of a text, or the place of the fault; that of the tokens comes first
unfoldable pub tree_of : List ℕ → Result Elements ℕ
tree_of text = of_tokens text (scan_of text)

-- some text has this tree
abbrev pub HasText : Elements → Type 0
HasText t = ∥ ((text : List ℕ) × (tree_of text ≡ Ok t)) ∥₁
