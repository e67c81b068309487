-- How far a page has come, by the answers that are in: the log. Our profile.
use Rattle.std.specs.Prelude.{ℕ, Bool, false, List, find, Option, Some, None, is_none}
use Rattle.edge_types.specs.declared.request.Request.{Request}
use Rattle.edge_types.specs.Answered.{Answered}
use Rattle.edge_types.specs.Outcome.{Shown}
use Rattle.edge_types.specs.Table.{answer_of}
use Rattle.esi_meaning.specs.Meaning.{outcome, page_legs, asked}
use Rattle.esi_meaning.specs.Run.{Leg, Asks, AsksNobody}

-- a page waits for the answer of a URL, or has its outcome
pub data State : Type 0 where
  Waiting : (url : List ℕ) → State
  Done : (outcome : Shown) → State

-- the log has no answer of the URL
abbrev pub is_missing : List Answered → List ℕ → Bool
is_missing log w = is_none (answer_of log w)

abbrev pub state_from : Option (List ℕ) → Shown → State
state_from (Some w) result = Waiting w
state_from None result = Done result

-- over the table T: the first URL asked for that isn't logged, or else the outcome
abbrev pub state_over : Request → List Answered → List Answered → ℕ → List ℕ → State
state_over r log T L u = state_from (find (is_missing log) (asked r T L u)) (outcome r T L u)

-- the state of the page at the URL u, over the logged answers alone
unfoldable pub state : Request → List Answered → ℕ → List ℕ → State
state r log L u = state_over r log log L u

-- the log has no answer of the URL that the leg asks for
abbrev pub lacks : List Answered → Leg → Bool
lacks log (Asks level w) = is_missing log w
lacks log AsksNobody = false

-- The leg at which a page waits: the first of its legs whose URL isn't logged. A page that waits for its own URL waits
-- at none: it has no legs yet.
unfoldable pub waits_at : Request → List Answered → ℕ → List ℕ → Option Leg
waits_at r log L u = find (lacks log) (page_legs r log L u)
