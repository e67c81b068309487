-- What each reason says about the reading that stops there. Tokens before a place are given with the last one first.
use Rattle.std.specs.Prelude.{◌≡◌, ◌⊎◌, ℕ, ◌≤◌, Bool, true, false, not, List, [], ◌∷◌, ◌++◌, length, map, reverse, Option, Some, None, Ok, Err, if◌then◌else◌}
use Rattle.std.specs.List.{list_any}
use Rattle.esi_scanner.specs.declared.element_name.ElementName.{ElementName}
use Rattle.esi_scanner.specs.declared.element_name.ElementName.TheVariants as element
use Rattle.esi_scanner.specs.declared.attribute.KnownAttribute.TheVariants as known
use Rattle.esi_scanner.specs.declared.tag.Tag.{Tag}
use Rattle.esi_scanner.specs.declared.token.Kind.{Kind}
use Rattle.esi_scanner.specs.declared.token.Kind.TheVariants as kinds
use Rattle.esi_scanner.specs.declared.token.Token.{Token}
use Rattle.esi_scanner.specs.Bytes.{◌>>=◌}
use Rattle.esi_scanner.specs.Problems.{trouble_at}
use Rattle.esi_scanner.specs.Scan.{scan_of}
use Rattle.esi_scanner.specs.Tag.{value_of}
use Rattle.esi_expr.specs.Reading.{read_test}
use Rattle.template_check.specs.Troubles.{trouble_of}
use Rattle.esi_tree.specs.declared.open_elements.TheConstants.{OPEN_LIMIT}
use Rattle.esi_tree.specs.Items.{item_of}
use Rattle.esi_tree.specs.Shown.{Branch}
use Rattle.esi_tree.specs.Reading.{Halves, Frame, InChoose, InTry, State, start, after, is_run, is_when, is_otherwise, is_same, lacks_attempt, lacks_except, may_stand, name_of, opened_by, tree_of}
use Rattle.template_check.specs.declared.elements.Opened.{Opened}
use Rattle.template_check.specs.declared.reason.Reason.{Reason}
use Rattle.template_check.specs.declared.reason.Reason.TheVariants as why
use Rattle.template_check.specs.Checking.{reason_at}

-- what has been read after tokens, if each can continue a template
unfoldable pub state_behind : List ℕ → List Token → Option State
state_behind text [] = Some start
state_behind text (token ∷ before) = state_behind text before >>= λ state. after (item_of text token) state

-- The elements that are open after tokens, the innermost first: a tag opens its element, a closed one ends it too, and
-- a closing tag ends the innermost.
abbrev pub outer_of : List Opened → List Opened
outer_of [] = []
outer_of (opened ∷ outer) = outer

abbrev pub open_by : Kind → ℕ → List Opened → List Opened
open_by (kinds.Open tag) place elements = if tag.closed then elements else record { name = tag.name; place = place } ∷ elements
open_by (kinds.Close name) place elements = outer_of elements
open_by _ place elements = elements

unfoldable pub open_behind : List Token → List Opened
open_behind [] = []
open_behind (token ∷ before) = open_by token.kind token.span.start (open_behind before)

-- the innermost of them
abbrev pub first : List Opened → Option Opened
first [] = None
first (opened ∷ outer) = Some opened

-- whether an element has such a part already
abbrev pub has_branch : ElementName → List Branch → Bool
has_branch element.Otherwise branches = list_any is_otherwise branches
has_branch _ branches = false

abbrev pub has_half : ElementName → Halves → Bool
has_half element.Attempt halves = not (lacks_attempt halves)
has_half element.Except halves = not (lacks_except halves)
has_half _ halves = false

abbrev pub has : ElementName → Frame → Bool
has name (InChoose branches) = has_branch name branches
has name (InTry halves) = has_half name halves
has name _ = false

-- whether such a part of a try is missing
abbrev pub lacks : ElementName → Halves → Bool
lacks element.Attempt halves = lacks_attempt halves
lacks element.Except halves = lacks_except halves
lacks _ halves = false

-- An element that a token ends, with what was read inside: the innermost open one, by a closing tag of its name; or
-- the one that a closed tag opens.
abbrev pub Closes : Opened → Frame → Token → State → List Opened → Type 0
Closes opened frame token state elements =
    (token.kind ≡ kinds.Close (name_of frame)) × (first elements ≡ Some opened) × ((outer : List Frame) × (state.frames ≡ frame ∷ outer))

abbrev pub IsClosed : Opened → Frame → Token → Type 0
IsClosed opened frame token =
    (tag : Tag) × (token.kind ≡ kinds.Open tag) × (tag.closed ≡ true) × (opened_by tag.name tag.attributes ≡ Some frame) × (opened ≡ record { name = tag.name; place = token.span.start })

abbrev pub Ends : Opened → Frame → Token → State → List Opened → Type 0
Ends opened frame token state elements = Closes opened frame token state elements ⊎ IsClosed opened frame token

-- what a reason says about a token that can't continue a template after this state, if these elements are open
abbrev pub Says : Reason → Token → State → List Opened → Type 0
Says (why.NoRun within) token state elements = (within ≡ first elements) × (is_run state.frames ≡ false)
Says why.TooDeep token state elements = OPEN_LIMIT ≤ length state.frames
Says (why.Misplaced name within) token state elements =
    (within ≡ first elements) × ((tag : Tag) × (token.kind ≡ kinds.Open tag) × (tag.name ≡ name)) × (may_stand name state.frames ≡ false)
Says (why.Second name within) token state elements =
    (within ≡ first elements) × ((tag : Tag) × (token.kind ≡ kinds.Open tag) × (tag.name ≡ name)) × ((frame : Frame) × (outer : List Frame) × (state.frames ≡ frame ∷ outer) × (has name frame ≡ true))
Says (why.Lacks name attribute) token state elements =
    (tag : Tag) × (token.kind ≡ kinds.Open tag) × (tag.name ≡ name) × (value_of attribute tag.attributes ≡ None) × (opened_by name tag.attributes ≡ None)
Says (why.BadTest trouble) token state elements =
    (tag : Tag) × (test : List ℕ) × (token.kind ≡ kinds.Open tag) × (tag.name ≡ element.When) × (value_of known.Test tag.attributes ≡ Some test) × (read_test test ≡ None) × (trouble ≡ trouble_of test)
Says (why.NoWhen opened) token state elements = (frame : Frame) × Ends opened frame token state elements × ((branches : List Branch) × (frame ≡ InChoose branches) × (list_any is_when branches ≡ false))
Says (why.NoHalf part opened) token state elements = (frame : Frame) × Ends opened frame token state elements × ((halves : Halves) × (frame ≡ InTry halves) × (lacks part halves ≡ true))
Says (why.Unopened name) token state elements = (token.kind ≡ kinds.Close name) × (state.frames ≡ []) × (elements ≡ [])
Says (why.Crossed name opened) token state elements =
    (token.kind ≡ kinds.Close name) × (first elements ≡ Some opened) × (is_same opened.name name ≡ false)
Says (why.Malformed trouble) token state elements = ⊥
Says (why.Ends within) token state elements = ⊥

-- the open elements have the names of those that the reading has open
abbrev pub AreNamed : List Opened → State → Type 0
AreNamed elements state = map (λ (opened : Opened). opened.name) elements ≡ map name_of state.frames

-- the token at this place can't continue a template, and the reason is true of it
pub record StopsAt (text : List ℕ) (tokens : List Token) (place : ℕ) (reason : Reason) : Type 0 where
  pub front : List Token
  pub token : Token
  pub back : List Token
  pub joined : tokens ≡ front ++ token ∷ back
  pub starts : place ≡ token.span.start
  pub state : State
  pub read : state_behind text (reverse front) ≡ Some state
  pub stuck : after (item_of text token) state ≡ None
  pub named : AreNamed (open_behind (reverse front)) state
  pub says : Says reason token state (open_behind (reverse front))

-- each token can continue a template, and the text ends inside the element that the reason names
pub record EndsInside (text : List ℕ) (tokens : List Token) (place : ℕ) (reason : Reason) : Type 0 where
  pub ends : place ≡ length text
  pub state : State
  pub read : state_behind text (reverse tokens) ≡ Some state
  pub opened : Opened
  pub outer : List Opened
  pub elements : open_behind (reverse tokens) ≡ opened ∷ outer
  pub named : AreNamed (opened ∷ outer) state
  pub says : reason ≡ why.Ends (Some opened)

-- a text has no tokens, and the reason is the trouble of the tag or the block at the place
pub record IsMalformed (text : List ℕ) (place : ℕ) (reason : Reason) : Type 0 where
  pub scanned : scan_of text ≡ Err place
  pub says : reason ≡ why.Malformed (trouble_at text place)

-- a text has tokens, and the reason is true of the first that can't continue a template, or of the text's end
pub record IsRefused (text : List ℕ) (place : ℕ) (reason : Reason) : Type 0 where
  pub tokens : List Token
  pub scanned : scan_of text ≡ Ok tokens
  pub stops : StopsAt text tokens place reason ⊎ EndsInside text tokens place reason

-- if a text isn't a template, its reason is true of the reading that stops at its place
abbrev pub ReasonsAreTrue : Type 0
ReasonsAreTrue = (text : List ℕ) (place : ℕ) → tree_of text ≡ Err place → IsMalformed text place (reason_at text place) ⊎ IsRefused text place (reason_at text place)
