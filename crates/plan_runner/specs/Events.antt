-- Events of a page, in order: what each does to the page and to the tickets in hand.
use Rattle.std.specs.Prelude.{◌≡◌, ℕ, List, [], ◌∷◌, ◌++◌, remove, slice_get, Option, Some, None, option_to_list}
use Rattle.edge_types.specs.Answered.{Answered}
use Rattle.edge_types.specs.Table.{reply_of}
use Rattle.esi_meaning.specs.State.{state, waits_at}
use Rattle.answer_board.specs.Board.{Ticket, Receipt, log_of}
use Rattle.plan_runner.specs.declared.events.Event.{Event}
use Rattle.plan_runner.specs.declared.events.Event.TheVariants.{Claim, Post, Advance}
use Rattle.plan_runner.specs.declared.page.State.{State}
use Rattle.plan_runner.specs.Page.{Page, ClaimsOf}
use Rattle.plan_runner.specs.Calls.{TakesIn, only_board, told_state, standing_after, Moves}

-- a page, and the tickets in hand: those that were claimed and not posted, oldest first
pub record Held : Type 0 where
  pub page : Page
  pub tickets : List Ticket

-- no ticket is in hand
abbrev pub empty_handed : Page → Held
empty_handed page = record { page = page; tickets = [] }

-- the table's answer of a URL
abbrev pub answered_by : List Answered → List ℕ → Answered
answered_by table url = record { url = url; reply = reply_of table url }

-- the receipt of a ticket, with the table's answer
abbrev pub receipt_of : List Answered → Ticket → Receipt
receipt_of table ticket = record { number = ticket.number; answer = answered_by table ticket.url }

-- a claim: the ticket that it returns, if there is one, is the newest in hand
pub record IsClaim (old new : Held) : Type 0 where
  pub ticket : Option Ticket
  pub claims : ClaimsOf old.page.standing old.page.board ticket new.page.board
  pub rest : new.page ≡ only_board old.page new.page.board
  pub tickets : new.tickets ≡ old.tickets ++ option_to_list ticket

-- a post of the ticket in hand at this place; it does nothing if there is none
abbrev pub IsPost : List Answered → ℕ → Option Ticket → Held → Held → Type 0
IsPost table place None old new = new ≡ old
IsPost table place (Some ticket) old new = TakesIn old.page (receipt_of table ticket) new.page × (new.tickets ≡ remove old.tickets place)

-- an advance of a page, which reports where it stands
pub record Advances (told : State) (old new : Page) : Type 0 where
  pub is_state : told_state told ≡ state old.request (log_of old.board) old.levels old.url
  pub stands : new.standing ≡ standing_after told
  pub moves : Moves told old.levels (waits_at old.request (log_of old.board) old.levels old.url) old.board new.board
  pub log : log_of new.board ≡ log_of old.board
  pub url : new.url ≡ old.url
  pub request : new.request ≡ old.request
  pub levels : new.levels ≡ old.levels
  pub room : new.room ≡ old.room

pub record IsAdvance (old new : Held) : Type 0 where
  pub told : State
  pub advances : Advances told old.page new.page
  pub tickets : new.tickets ≡ old.tickets

-- what an event does
abbrev pub Happens : List Answered → Event → Held → Held → Type 0
Happens table Claim old new = IsClaim old new
Happens table (Post place) old new = IsPost table place (slice_get old.tickets place) old new
Happens table Advance old new = IsAdvance old new

-- the events, in order and none left out
abbrev pub Happen : List Answered → List Event → Held → Held → Type 0
Happen table [] old new = new ≡ old
Happen table (event ∷ events) old new = (next : Held) × Happens table event old next × Happen table events next new

-- the events, and then an advance, which reports where the page stands
pub record Ran (table : List Answered) (events : List Event) (start : Held) (told : State) (end : Page) : Type 0 where
  pub before : Held
  pub happened : Happen table events start before
  pub last : Advances told before.page end
