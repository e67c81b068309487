-- The outcome of a page, as its reader sees it.
use Rattle.std.specs.Prelude.{ℕ, List, codes}
use Rattle.edge_types.specs.declared.head.Head.{Head}
use Rattle.edge_types.specs.declared.outcome.Outcome.{Outcome}
use Rattle.edge_types.specs.declared.outcome.Outcome.TheVariants as outcome
use Rattle.edge_types.specs.declared.outcome.PageFault.{PageFault}
use Rattle.edge_types.specs.declared.outcome.PageFault.TheVariants.{PageFetch, BadTemplate, IncludeFailed, TooManyLegs}
use Rattle.edge_types.specs.Pieces.{joined}

-- a page's head and bytes, or its fault
pub data Shown : Type 0 where
  Page : Head → List ℕ → Shown
  Fault : PageFault → Shown

-- what a reader sees of an outcome: the body's pieces joined
abbrev pub shown : Outcome → Shown
shown (outcome.Page head body) = Page head (joined body)
shown (outcome.Fault fault) = Fault fault

-- the fault's number
abbrev pub number_of : PageFault → ℕ
number_of PageFetch = 1
number_of (BadTemplate at) = 2
number_of IncludeFailed = 3
number_of TooManyLegs = 4

-- the fault's name
abbrev pub name_of : PageFault → List ℕ
name_of PageFetch = codes "PageFetch"
name_of (BadTemplate at) = codes "BadTemplate"
name_of IncludeFailed = codes "IncludeFailed"
name_of TooManyLegs = codes "TooManyLegs"
