-- What holds of every board, over all lists of calls.
use Rattle.std.specs.Prelude.{◌≡◌, ℕ, List, slice_get, Some, None, option_and_then}
use Rattle.edge_types.specs.Answered.{Answered}
use Rattle.edge_types.specs.Table.{answer_of, IsTable}
use Rattle.answer_board.specs.Board.{State, Slot, Receipt, urls, number_of, answer_at, fill_fault, log_of}
use Rattle.answer_board.specs.Runs.{Event, TookReceipt, History, Step, Run, Keeps, opened_in, filled_in, log_in}
use Rattle.answer_board.specs.Sound.{IsBoard}

-- In every run of a new board each call follows from the earlier ones, the slots are those that were opened, in order, each filled with the answer of the one receipt that was taken for it, and the log has these answers in order.
abbrev pub BoardLaw : Type 0
BoardLaw = (history : History) (board : State) → Run history board → Keeps history × (urls board.slots ≡ opened_in history) × ((number : ℕ) → answer_at board.slots number ≡ filled_in history number) × (log_of board ≡ log_in history)

-- Receipts of another board: one that is accepted fills the slot with its own number and URL.
abbrev pub StrangersStayOut : Type 0
StrangersStayOut = (old new : State) (receipt : Receipt) → Step old (TookReceipt receipt) new → (slice_get (urls old.slots) receipt.number ≡ Some receipt.answer.url) × (answer_at new.slots receipt.number ≡ Some receipt.answer)

-- a slot with this URL and depth has this number
abbrev pub HasSlot : State → ℕ → List ℕ → ℕ → Type 0
HasSlot board number url depth = (slot : Slot) × (slice_get board.slots number ≡ Some slot) × (slot.url ≡ url) × (slot.depth ≡ depth)

-- what a board reports, it still reports after one more call
pub record Stays (old new : State) : Type 0 where
  -- a URL keeps its number
  pub numbers : (url : List ℕ) (number : ℕ) → number_of old.slots url ≡ Some number → number_of new.slots url ≡ Some number
  -- a number keeps its URL and its depth
  pub slots : (number : ℕ) (url : List ℕ) (depth : ℕ) → HasSlot old number url depth → HasSlot new number url depth
  -- a slot keeps its answer
  pub answers : (number : ℕ) (answer : Answered) → answer_at old.slots number ≡ Some answer → answer_at new.slots number ≡ Some answer

abbrev pub SlotsStay : Type 0
SlotsStay = (old new : State) (event : Event) → Step old event new → Stays old new

-- the log, as a table
pub record IsLookedUp (board : State) : Type 0 where
  -- no URL is logged twice
  pub once : IsTable (log_of board)
  -- what the log answers for a URL is what the slot of that URL is filled with
  pub answers : (url : List ℕ) → answer_of (log_of board) url ≡ option_and_then (answer_at board.slots) (number_of board.slots url)
  -- a receipt that is accepted is for a URL that isn't logged
  pub fresh : (receipt : Receipt) → fill_fault board.slots receipt ≡ None → answer_of (log_of board) receipt.answer.url ≡ None

abbrev pub LogIsLookedUp : Type 0
LogIsLookedUp = (board : State) → IsBoard board → IsLookedUp board
