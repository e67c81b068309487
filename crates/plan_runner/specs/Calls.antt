-- What the calls of a page return, and what they leave.
use Rattle.std.specs.Prelude.{◌≡◌, ℕ, ◌+◌, ◌-◌, List, [], ◌∷◌, ◌++◌, slice_get, Option, Some, None, IsSome, ⊤}
use Rattle.std.specs.Arc.{arc_value}
use Rattle.edge_types.specs.Answered.{Answered}
use Rattle.edge_types.specs.Outcome.{shown}
use Rattle.esi_meaning.specs.Meaning.{outcome}
use Rattle.esi_meaning.specs.Run.{Leg, Asks, AsksNobody}
use Rattle.esi_meaning.specs.State as meaning
use Rattle.answer_board.specs.declared.board.FillFault.{FillFault}
use Rattle.answer_board.specs.declared.board.FillFault.TheVariants as fault
use Rattle.answer_board.specs.Board.{State, Slot, Receipt, number_of, answer_in, with_slot, Opens, Fills, fill_fault, log_of}
use Rattle.plan_runner.specs.declared.page.PageError.{PageError}
use Rattle.plan_runner.specs.declared.page.PageError.TheVariants as error
use Rattle.plan_runner.specs.declared.page.PostFault.{PostFault}
use Rattle.plan_runner.specs.declared.page.PostFault.TheVariants as refusal
use Rattle.plan_runner.specs.declared.page.State as told
use Rattle.plan_runner.specs.declared.page.State.TheVariants as tells
use Rattle.plan_runner.specs.Ahead.{Opening, opened_by}
use Rattle.plan_runner.specs.Page.{Standing, Underway, Finished, Broken, Page}

-- it is one page: with one URL and request, one number of levels, and one number of slots that posts may open ahead
pub record IsOnePage (old new : Page) : Type 0 where
  pub url : new.url ≡ old.url
  pub request : new.request ≡ old.request
  pub levels : new.levels ≡ old.levels
  pub ahead : new.ahead ≡ old.ahead

-- nothing but the board has changed
abbrev pub only_board : Page → State → Page
only_board p b = record { url = p.url; request = p.request; levels = p.levels; board = b; ahead = p.ahead; room = p.room; steps = p.steps; standing = p.standing }

-- slots were opened ahead
abbrev pub with_opening : Page → Opening → Page
with_opening p o = record { url = p.url; request = p.request; levels = p.levels; board = o.board; ahead = p.ahead; room = o.room; steps = p.steps; standing = p.standing }

-- ---- post

-- an answer came in, in a slot at this depth: a page that goes on opens slots ahead, one that has its outcome opens none
abbrev pub Posted : Standing → Page → Receipt → ℕ → State → Page → Type 0
Posted Underway old receipt depth filled new = new ≡ with_opening old (opened_by old.request old.levels depth receipt.answer (record { board = filled; room = old.room }))
Posted (Finished outcome) old receipt depth filled new = new ≡ only_board old filled
Posted Broken old receipt depth filled new = ⊥

-- the receipt is accepted
pub record TakesIn (old : Page) (receipt : Receipt) (new : Page) : Type 0 where
  pub no_fault : fill_fault old.board.slots receipt ≡ None
  pub filled : State
  pub fills : Fills old.board receipt filled
  pub posted : Posted old.standing old receipt fills.0.depth filled new

-- the board refuses the receipt, and it comes back
pub record Declines (f : FillFault) (back : Receipt) (old : Page) (receipt : Receipt) (new : Page) : Type 0 where
  pub unbroken : old.standing ≡ Broken → ⊥
  pub is_fault : fill_fault old.board.slots receipt ≡ Some f
  pub same : back ≡ receipt
  pub unchanged : new ≡ old

-- the answer is in, and the page is broken
pub record Breaks (old : Page) (receipt : Receipt) (new : Page) : Type 0 where
  pub underway : old.standing ≡ Underway
  pub no_fault : fill_fault old.board.slots receipt ≡ None
  pub broken : new.standing ≡ Broken
  pub log : log_of new.board ≡ log_of old.board ++ receipt.answer ∷ []

abbrev pub Refuses : PostFault → Page → Receipt → Page → Type 0
Refuses (refusal.Stranger back) old receipt new = Declines fault.Stranger back old receipt new
Refuses (refusal.NotClaimed back) old receipt new = Declines fault.NotClaimed back old receipt new
Refuses (refusal.Filled back) old receipt new = Declines fault.Filled back old receipt new
Refuses refusal.NoMemory old receipt new = Breaks old receipt new
Refuses (refusal.Broken back) old receipt new = (old.standing ≡ Broken) × (back ≡ receipt) × (new ≡ old)

-- ---- advance

-- what is reported, as the meaning has it
abbrev pub told_state : told.State → meaning.State
told_state (tells.Waiting url) = meaning.Waiting url
told_state (tells.Done outcome) = meaning.Done (shown (arc_value outcome))

abbrev pub standing_after : told.State → Standing
standing_after (tells.Waiting url) = Underway
standing_after (tells.Done outcome) = Finished (shown (arc_value outcome))

-- a page that isn't done is broken if memory runs out; one that is done stays as it is
abbrev pub Spoils : Standing → Page → Page → Type 0
Spoils Underway old new = new.standing ≡ Broken
Spoils (Finished outcome) old new = new ≡ old
Spoils Broken old new = ⊥

abbrev pub Errs : PageError → Page → Page → Type 0
Errs error.Broken old new = (old.standing ≡ Broken) × (new ≡ old)
Errs error.NoMemory old new = Spoils old.standing old new

-- a page that waits for its own answer opens no slot; one that waits at a leg of level n opens one for its URL, if
-- that has none, one deeper than the levels that were used up
abbrev pub Awaits : ℕ → Option Leg → State → State → Type 0
Awaits levels None old new = new ≡ old
Awaits levels (Some (Asks n w)) old new = (number : ℕ) × Opens (number_of old.slots w) w (levels - n + 1) old number new
Awaits levels (Some AsksNobody) old new = ⊥

-- of a page that is done: its outcome is the one over this table
abbrev pub IsOutcomeOver : List Answered → Page → told.State → Type 0
IsOutcomeOver table page (tells.Waiting url) = ⊤
IsOutcomeOver table page (tells.Done result) = outcome page.request table page.levels page.url ≡ shown (arc_value result)

-- each slot has its answer
abbrev pub IsFilled : State → Type 0
IsFilled b = (number : ℕ) (s : Slot) → slice_get b.slots number ≡ Some s → IsSome (answer_in s.standing)

-- a page that isn't done has one more slot, for the URL that it waits for
abbrev pub HasAppended : told.State → State → State → Type 0
HasAppended (tells.Waiting url) old new = (depth : ℕ) × (new ≡ with_slot url depth old)
HasAppended (tells.Done outcome) old new = ⊤

-- what an advance does to the board, by what it reports
abbrev pub Moves : told.State → ℕ → Option Leg → State → State → Type 0
Moves (tells.Waiting url) levels leg old new = Awaits levels leg old new
Moves (tells.Done outcome) levels leg old new = new ≡ old
