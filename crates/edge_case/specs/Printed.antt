-- The printed form of a page's outcome.
use Rattle.std.specs.Prelude.{ℕ, List, [], ◌∷◌, ◌++◌, length, decimal, codes}
use Rattle.edge_types.specs.declared.head.Head.{Head}
use Rattle.edge_types.specs.declared.outcome.PageFault.{PageFault}
use Rattle.edge_types.specs.declared.outcome.PageFault.TheVariants.{PageFetch, BadTemplate, IncludeFailed, TooManyLegs}
use Rattle.edge_types.specs.Outcome.{Shown, Page, Fault, number_of, name_of}
use Rattle.edge_case.specs.Document.{space, line_feed}
use Rattle.edge_case.specs.declared.ending.CaseEnd.{CaseEnd}
use Rattle.edge_case.specs.declared.ending.CaseEnd.TheVariants.{PagePrinted, FaultPrinted}

-- status, length of the body and content type, on a line
abbrev pub page_line : Head → ℕ → List ℕ
page_line head len = decimal head.status ++ space ∷ (decimal len ++ space ∷ (head.content_type ++ line_feed ∷ []))

-- the place of a fault, if it has one
abbrev pub place_of : PageFault → List ℕ
place_of PageFetch = []
place_of (BadTemplate at) = space ∷ decimal at
place_of IncludeFailed = []
place_of TooManyLegs = []

-- the fault's number, name and place, on a line
abbrev pub fault_line : PageFault → List ℕ
fault_line fault = codes "fault " ++ (decimal (number_of fault) ++ space ∷ (name_of fault ++ (place_of fault ++ line_feed ∷ [])))

-- a page as its line and its body, or a fault as its line
abbrev pub printed : Shown → List ℕ
printed (Page head body) = page_line head (length body) ++ body
printed (Fault fault) = fault_line fault

-- how a run that printed this ends
abbrev pub end_of : Shown → CaseEnd
end_of (Page head body) = PagePrinted
end_of (Fault fault) = FaultPrinted
