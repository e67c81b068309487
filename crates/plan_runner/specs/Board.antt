-- What holds of the board of a page: what may still come in, and how many slots there are.
use Rattle.std.specs.Prelude.{◌≡◌, ◌≢◌, ℕ, ◌+◌, ◌≤◌, List, [], ◌∷◌, length, Contains, IsSome, Some, None, ⊤}
use Rattle.std.specs.List.{AllByRecursion}
use Rattle.edge_types.specs.declared.request.Request.{Request}
use Rattle.edge_types.specs.Answered.{Answered}
use Rattle.edge_types.specs.Table.{answer_of, Agrees}
use Rattle.esi_meaning.specs.declared.limits.TheConstants.{MAX_LEGS}
use Rattle.esi_meaning.specs.Ahead.{MayFollow}
use Rattle.esi_meaning.specs.Meaning.{asked}
use Rattle.answer_board.specs.Board.{State, number_of, log_of}
use Rattle.plan_runner.specs.declared.page.Stage.{Stage}
use Rattle.plan_runner.specs.declared.page.Stage.TheVariants.{Unread, Running, Done, Broken}

-- no URL comes twice
abbrev pub AreApart : List (List ℕ) → Type 0
AreApart [] = ⊤
AreApart (url ∷ urls) = AllByRecursion (λ other. other ≢ url) urls × AreApart urls

-- the board of a page that isn't broken
pub record IsWhole (r : Request) (L : ℕ) (u : List ℕ) (ahead room : ℕ) (b : State) : Type 0 where
  -- the first slot is the page's own
  pub own : number_of b.slots u ≡ Some 0
  -- a URL that has a slot and isn't logged may follow the log
  pub follows : (number : ℕ) (w : List ℕ) → number_of b.slots w ≡ Some number → answer_of (log_of b) w ≡ None → MayFollow r u (log_of b) w
  -- the URLs that the page has waited for: each has a slot, and is asked for over every table that agrees with the log
  pub waited : List (List ℕ)
  pub apart : AreApart waited
  pub slotted : AllByRecursion (λ w. IsSome (number_of b.slots w)) waited
  pub are_asked : (table : List Answered) → Agrees (log_of b) table → AllByRecursion (Contains (asked r table L u)) waited
  -- all other slots were opened ahead
  pub counted : length b.slots + room ≤ length waited + ahead

-- a page has few slots; while it isn't broken, only answers that may follow its log can come in
abbrev pub StandsBoard : Request → ℕ → List ℕ → ℕ → ℕ → State → Stage → Type 0
StandsBoard r L u ahead room b Unread = IsWhole r L u ahead room b
StandsBoard r L u ahead room b Running = IsWhole r L u ahead room b
StandsBoard r L u ahead room b (Done outcome) = IsWhole r L u ahead room b
StandsBoard r L u ahead room b Broken = length b.slots ≤ MAX_LEGS + 1 + ahead
