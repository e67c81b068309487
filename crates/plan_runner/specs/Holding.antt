-- What holds between the events of a page.
use Rattle.std.specs.Prelude.{◌≡◌, ℕ, suc, ◌+◌, ◌==◌, Bool, true, false, List, [], ◌∷◌, slice_get, Option, Some, None, IsSome, is_none, count_by, ⊤}
use Rattle.edge_types.specs.Answered.{Answered}
use Rattle.edge_types.specs.Outcome.{Shown}
use Rattle.edge_types.specs.Table.{Agrees}
use Rattle.esi_meaning.specs.Meaning.{asked}
use Rattle.answer_board.specs.Board.{Standing, Unclaimed, Claimed, Filled, Slot, Ticket, urls, number_of, is_unclaimed, first_unclaimed, log_of}
use Rattle.answer_board.specs.Sound.{one_if, unfilled}
use Rattle.plan_runner.specs.Events.{Held}
use Rattle.plan_runner.specs.Page.{Page, Underway, Finished, Broken}

abbrev pub is_claimed : Standing → Bool
is_claimed Unclaimed = false
is_claimed Claimed = true
is_claimed (Filled answer) = false

-- a slot whose ticket was given, and that waits for its answer
abbrev pub is_claimed_slot : Option Slot → Bool
is_claimed_slot None = false
is_claimed_slot (Some s) = is_claimed s.standing

abbrev pub is_claimed_at : List Slot → ℕ → Bool
is_claimed_at slots n = is_claimed_slot (slice_get slots n)

-- the ticket names the URL of the slot with its number
pub record IsNamed (slots : List Slot) (ticket : Ticket) : Type 0 where
  pub slot : Slot
  pub there : slice_get slots ticket.number ≡ Some slot
  pub named : ticket.url ≡ slot.url

abbrev pub AreNamed : List Slot → List Ticket → Type 0
AreNamed slots [] = ⊤
AreNamed slots (t ∷ ts) = IsNamed slots t × AreNamed slots ts

-- in hand is one ticket for each claimed slot, and none for any other
pub record AreTickets (slots : List Slot) (tickets : List Ticket) : Type 0 where
  pub named : AreNamed slots tickets
  pub counted : (n : ℕ) → count_by (λ (t : Ticket). t.number == n) tickets ≡ one_if (is_claimed_at slots n)

pub record IsHeld (table : List Answered) (h : Held) : Type 0 where
  pub whole : h.page.standing ≡ Broken → ⊥
  pub agrees : Agrees (log_of h.page.board) table
  pub own : IsSome (number_of h.page.board.slots h.page.url)
  pub tickets : AreTickets h.page.board.slots h.tickets

-- ---- what is left to do

-- how many of these URLs have no slot
abbrev pub without_slot : List (List ℕ) → List Slot → ℕ
without_slot ws slots = count_by (λ w. is_none (number_of slots w)) ws

-- Answers that may still come: of open slots, of slots that posts may open, and of URLs that are asked for over the
-- table and have no slot.
abbrev pub left : List Answered → Page → ℕ
left table p = p.room + (unfilled p.board.slots + without_slot (asked p.request table p.levels p.url) p.board.slots)

-- how many slots nobody has claimed
abbrev pub unclaimed : List Slot → ℕ
unclaimed slots = count_by (λ (s : Slot). is_unclaimed s.standing) slots

-- nothing has changed except which slots are claimed, and how far the page is
pub record IsSameBut (old new : Page) : Type 0 where
  pub url : new.url ≡ old.url
  pub request : new.request ≡ old.request
  pub levels : new.levels ≡ old.levels

-- the page has come to its end over this table, with this outcome
pub record IsAtEnd (table : List Answered) (old new : Page) (outcome : Shown) : Type 0 where
  pub same : IsSameBut old new
  pub standing : new.standing ≡ Finished outcome
  pub agrees : Agrees (log_of new.board) table

abbrev pub ClaimsOne : Bool → Page → Page → Type 0
ClaimsOne true old new = suc (unclaimed new.board.slots) ≡ unclaimed old.board.slots
ClaimsOne false old new = new.standing ≡ Underway → first_unclaimed new.board.slots ≡ None

-- slots were claimed, and nothing else has changed
pub record OnlyClaims (table : List Answered) (old new : Page) : Type 0 where
  pub same : IsSameBut old new
  pub standing : new.standing ≡ old.standing
  pub urls_are : urls new.board.slots ≡ urls old.board.slots
  pub log : log_of new.board ≡ log_of old.board
  pub left_is : left table new ≡ left table old
