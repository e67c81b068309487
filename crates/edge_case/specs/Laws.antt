-- Laws of case texts and of lists of events, over the definitions alone.
use Rattle.std.specs.Prelude.{◌≡◌, ◌↔◌, ℕ, List, Some}
use Rattle.plan_runner.specs.declared.events.Event.{Event}
use Rattle.edge_case.specs.declared.case_text.Case.{Case}
use Rattle.edge_case.specs.Case.{IsCaseText}
use Rattle.edge_case.specs.Reading.{case_of}
use Rattle.edge_case.specs.Order.{Lists, events_of}

-- what is read from a text is the case that it spells, and each case that is spelled is read
abbrev pub ReadsCases : Type 0
ReadsCases = (text : List ℕ) (case : Case) → (case_of text ≡ Some case) ↔ IsCaseText text case

-- a text spells at most one case
abbrev pub CasesAreOne : Type 0
CasesAreOne = (text : List ℕ) (one other : Case) → IsCaseText text one → IsCaseText text other → one ≡ other

-- what is read from a text is the list of events that it writes, and each list that is written is read
abbrev pub ReadsOrders : Type 0
ReadsOrders = (text : List ℕ) (events : List Event) → (events_of text ≡ Some events) ↔ Lists text events

-- a text lists at most one order
abbrev pub OrdersAreOne : Type 0
OrdersAreOne = (text : List ℕ) (one other : List Event) → Lists text one → Lists text other → one ≡ other
