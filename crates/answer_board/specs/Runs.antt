-- Whole runs of a board, in terms of the calls and their answers alone. A history has the latest call first.
use Rattle.std.specs.Prelude.{◌≡◌, ℕ, ◌+◌, ◌<◌, bytes_eq, List, [], ◌∷◌, ◌++◌, length, position, slice_get, Option, Some, None, ⊤, if◌then◌else◌, ◌==◌}
use Rattle.edge_types.specs.Answered.{Answered}
use Rattle.answer_board.specs.declared.board.FillFault.{FillFault}
use Rattle.answer_board.specs.Board.{State, Ticket, Receipt, empty, number_of, Opens, Claims, fill_fault, Fills}

-- one call of a board, and what it returned
pub data Event : Type 0 where
  Opened : (url : List ℕ) (depth : ℕ) (number : ℕ) → Event
  OpenRefused : (url : List ℕ) (depth : ℕ) → Event
  TookTicket : (ticket : Option Ticket) → Event
  TookReceipt : (receipt : Receipt) → Event
  ReceiptRefused : (receipt : Receipt) (fault : FillFault) → Event

abbrev pub History : Type 0
History = List Event

-- the call may lead from old to new in this way
abbrev pub Step : State → Event → State → Type 0
Step old (Opened url depth number) new = Opens (number_of old.slots url) url depth old number new
Step old (OpenRefused url depth) new = new ≡ old
Step old (TookTicket ticket) new = Claims old ticket new
Step old (TookReceipt receipt) new = (fill_fault old.slots receipt ≡ None) × Fills old receipt new
Step old (ReceiptRefused receipt fault) new = (fill_fault old.slots receipt ≡ Some fault) × (new ≡ old)

-- a new board may be in this state after these calls
abbrev pub Run : History → State → Type 0
Run [] b = b ≡ empty
Run (event ∷ earlier) b = (before : State) × Run earlier before × Step before event b

-- ---- what a history says

-- the URLs with this one after them, if it isn't among them
abbrev pub with_url : Option ℕ → List ℕ → List (List ℕ) → List (List ℕ)
with_url (Some number) url others = others
with_url None url others = others ++ url ∷ []

-- the place of a URL among these
abbrev pub place_in : List (List ℕ) → List ℕ → Option ℕ
place_in opened url = position (λ u. bytes_eq u url) opened

-- the URLs that were opened, in order of their first opening
abbrev pub opened_in : History → List (List ℕ)
opened_in [] = []
opened_in (Opened url depth number ∷ earlier) = with_url (place_in (opened_in earlier) url) url (opened_in earlier)
opened_in (OpenRefused url depth ∷ earlier) = opened_in earlier
opened_in (TookTicket ticket ∷ earlier) = opened_in earlier
opened_in (TookReceipt receipt ∷ earlier) = opened_in earlier
opened_in (ReceiptRefused receipt fault ∷ earlier) = opened_in earlier

-- how many tickets were given
abbrev pub tickets : History → ℕ
tickets [] = 0
tickets (Opened url depth number ∷ earlier) = tickets earlier
tickets (OpenRefused url depth ∷ earlier) = tickets earlier
tickets (TookTicket (Some ticket) ∷ earlier) = tickets earlier + 1
tickets (TookTicket None ∷ earlier) = tickets earlier
tickets (TookReceipt receipt ∷ earlier) = tickets earlier
tickets (ReceiptRefused receipt fault ∷ earlier) = tickets earlier

-- the answer of the accepted receipt with this number
abbrev pub filled_in : History → ℕ → Option Answered
filled_in [] n = None
filled_in (Opened url depth number ∷ earlier) n = filled_in earlier n
filled_in (OpenRefused url depth ∷ earlier) n = filled_in earlier n
filled_in (TookTicket ticket ∷ earlier) n = filled_in earlier n
filled_in (TookReceipt receipt ∷ earlier) n = if n == receipt.number then Some receipt.answer else filled_in earlier n
filled_in (ReceiptRefused receipt fault ∷ earlier) n = filled_in earlier n

-- the answers of the accepted receipts, in order
abbrev pub log_in : History → List Answered
log_in [] = []
log_in (Opened url depth number ∷ earlier) = log_in earlier
log_in (OpenRefused url depth ∷ earlier) = log_in earlier
log_in (TookTicket ticket ∷ earlier) = log_in earlier
log_in (TookReceipt receipt ∷ earlier) = log_in earlier ++ receipt.answer ∷ []
log_in (ReceiptRefused receipt fault ∷ earlier) = log_in earlier

-- the number of a URL that is opened: its place among those opened before, else how many they are
abbrev pub IsNumber : Option ℕ → List (List ℕ) → ℕ → Type 0
IsNumber (Some place) opened number = number ≡ place
IsNumber None opened number = number ≡ length opened

-- how a call's result depends on the earlier calls
abbrev pub Follows : History → Event → Type 0
Follows earlier (Opened url depth number) = IsNumber (place_in (opened_in earlier) url) (opened_in earlier) number
Follows earlier (OpenRefused url depth) = ⊤
-- the tickets are those of the slots in order of opening, each given once
Follows earlier (TookTicket (Some ticket)) = (ticket.number ≡ tickets earlier) × (slice_get (opened_in earlier) ticket.number ≡ Some ticket.url)
Follows earlier (TookTicket None) = tickets earlier ≡ length (opened_in earlier)
-- a receipt is accepted once, for a number whose ticket was given, and names the URL of that number
Follows earlier (TookReceipt receipt) = (filled_in earlier receipt.number ≡ None) × (receipt.number < tickets earlier) × (slice_get (opened_in earlier) receipt.number ≡ Some receipt.answer.url)
Follows earlier (ReceiptRefused receipt fault) = ⊤

-- each call follows from those before it
abbrev pub Keeps : History → Type 0
Keeps [] = ⊤
Keeps (event ∷ earlier) = Follows earlier event × Keeps earlier
