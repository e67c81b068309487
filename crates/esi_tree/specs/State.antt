-- What contracts see of a reader at work: what has been read, without where it lies in memory.
use Rattle.std.specs.Prelude.{◌≡◌, ℕ, ◌+◌, ◌≤◌, Bool, true, false, List, [], ◌∷◌, map, reverse, Option, Some, None, Ok, if◌then◌else◌}
use Rattle.std.specs.Arc.{arc_value}
use Rattle.esi_expr.specs.Shown.{test_of}
use Rattle.esi_tree.specs.declared.halves.Halves as code
use Rattle.esi_tree.specs.declared.halves.Halves.TheVariants as half
use Rattle.esi_tree.specs.declared.child.Child as code_child
use Rattle.esi_tree.specs.declared.child.Child.TheVariants as given
use Rattle.esi_tree.specs.declared.open_element.OpenElement.{OpenElement}
use Rattle.esi_tree.specs.declared.open_element.OpenElement.TheVariants as unended
use Rattle.esi_tree.specs.declared.open_elements.OpenElements.{OpenElements}
use Rattle.esi_tree.specs.declared.reader.Reader.{Reader}
use Rattle.esi_tree.specs.declared.open_elements.TheConstants.{OPEN_LIMIT}
use Rattle.esi_tree.specs.Tree.{Elements, depth}
use Rattle.esi_tree.specs.Shown.{element_of, elements_of, branch_of}
use Rattle.esi_tree.specs.Reading as reading
use Rattle.esi_tree.specs.Reading.{Frame, State, ended, HasText}

-- the parts of a try
abbrev pub halves_of : code.Halves → reading.Halves
halves_of half.Neither = reading.Neither
halves_of (half.AttemptAlone attempt) = reading.AttemptAlone (elements_of attempt.items)
halves_of (half.ExceptAlone except) = reading.ExceptAlone (elements_of except.items)
halves_of (half.Both attempt except swapped) = reading.Both (elements_of attempt.items) (elements_of except.items) swapped

-- what an element passes on to the one around it
abbrev pub shown_child : code_child.Child → reading.Child
shown_child (given.Element node) = reading.AnElement (element_of node)
shown_child (given.Branch branch) = reading.ABranch (branch_of branch)
shown_child (given.Attempt content) = reading.AnAttempt (elements_of content.items)
shown_child (given.Except content) = reading.AnExcept (elements_of content.items)

-- an open element
abbrev pub frame_of : OpenElement → Frame
frame_of (unended.Include include) = reading.InInclude include
frame_of unended.Comment = reading.InComment
frame_of (unended.Inline name content) = reading.InInline name (map element_of content.items)
frame_of (unended.Vars content) = reading.InVars (map element_of content.items)
frame_of (unended.Choose branches) = reading.InChoose (map branch_of branches.items)
frame_of (unended.When test content) = reading.InWhen (test_of (arc_value test)) (map element_of content.items)
frame_of (unended.Otherwise content) = reading.InOtherwise (map element_of content.items)
frame_of (unended.Try halves) = reading.InTry (halves_of halves)
frame_of (unended.Attempt content) = reading.InAttempt (map element_of content.items)
frame_of (unended.Except content) = reading.InExcept (map element_of content.items)

-- the open elements, the innermost first
unfoldable pub frames_of : OpenElements → List Frame
frames_of elements = reverse (map frame_of elements.elements.items)

-- the open elements with one more child in the innermost
abbrev pub grown_innermost : reading.Child → List Frame → List Frame
grown_innermost child [] = []
grown_innermost child (frame ∷ outer) = reading.grown child frame ∷ outer

-- whether no element is open
abbrev pub is_none_open : List Frame → Bool
is_none_open [] = true
is_none_open (frame ∷ outer) = false

-- what has been read
abbrev pub state_of : Reader → State
state_of reader = record { frames = frames_of reader.open; content = map element_of reader.content.items }

-- what has been read, if it can continue a template
abbrev pub some_if : Bool → State → Option State
some_if goes_on state = if goes_on then Some state else None

-- at the end of a text a reader yields the tree of a text, and none deeper than a template may be
abbrev pub EndsWell : State → Type 0
EndsWell state = (end : ℕ) (t : Elements) → ended state.frames state.content end ≡ Ok t → (depth t ≤ OPEN_LIMIT + 1) × HasText t
