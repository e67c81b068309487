-- Slots that are opened ahead.
use Rattle.std.specs.Prelude.{ℕ, zero, suc, ◌+◌, nat_lt, List, [], ◌∷◌, Option, Some, None, if◌then◌else◌}
use Rattle.edge_types.specs.declared.request.Request.{Request}
use Rattle.edge_types.specs.Answered.{Answered}
use Rattle.esi_meaning.specs.Ahead.{ahead_of}
use Rattle.answer_board.specs.Board.{State, number_of, with_slot}

-- a board, and the room that there is for slots ahead
pub record Opening : Type 0 where
  pub board : State
  pub room : ℕ

abbrev pub with_room : ℕ → ℕ → List ℕ → State → Opening
with_room zero depth w b = record { board = b; room = zero }
with_room (suc n) depth w b = record { board = with_slot w depth b; room = n }

-- a slot for this URL, if it has none and there is room
abbrev pub with_url : Option ℕ → ℕ → List ℕ → Opening → Opening
with_url (Some number) depth w o = o
with_url None depth w o = with_room o.room depth w o.board

-- slots for these URLs, in turn
abbrev pub opened : ℕ → List (List ℕ) → Opening → Opening
opened depth [] o = o
opened depth (w ∷ ws) o = opened depth ws (with_url (number_of o.board.slots w) depth w o)

-- the slots that an answer in a slot at this depth has opened ahead
abbrev pub opened_by : Request → ℕ → ℕ → Answered → Opening → Opening
opened_by r levels depth a o = if nat_lt depth levels then opened (depth + 1) (ahead_of r a) o else o
