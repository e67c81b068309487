-- What clauses see of a page.
use Rattle.std.specs.Prelude.{◌≡◌, ℕ, List, Option, None}
use Rattle.edge_types.specs.declared.request.Request.{Request}
use Rattle.edge_types.specs.Outcome.{Shown}
use Rattle.answer_board.specs.Board.{State, Ticket, empty, with_slot, Claims}

-- how far a page is: it goes on, it has its outcome, or an allocation failed
pub data Standing : Type 0 where
  Underway : Standing
  Finished : (outcome : Shown) → Standing
  Broken : Standing

pub record Page : Type 0 where
  pub url : List ℕ
  pub request : Request
  pub levels : ℕ
  pub board : State
  -- how many slots posts may open ahead, and how many they still may
  pub ahead : ℕ
  pub room : ℕ
  -- how many steps of plans were made
  pub steps : ℕ
  pub standing : Standing

-- a page with no answers in
abbrev pub accepted : List ℕ → Request → ℕ → ℕ → Page
accepted url request ahead levels = record { url = url; request = request; levels = levels; board = with_slot url 0 empty; ahead = ahead; room = ahead; steps = 0; standing = Underway }

-- a page that goes on claims as its board does; any other gives no ticket
abbrev pub ClaimsOf : Standing → State → Option Ticket → State → Type 0
ClaimsOf Underway old ticket new = Claims old ticket new
ClaimsOf (Finished outcome) old ticket new = (ticket ≡ None) × (new ≡ old)
ClaimsOf Broken old ticket new = (ticket ≡ None) × (new ≡ old)
