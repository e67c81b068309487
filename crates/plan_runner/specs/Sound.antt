-- What holds of every page.
use Rattle.std.specs.Prelude.{◌≡◌, ℕ, List}
use Rattle.std.specs.List.{AllByRecursion}
use Rattle.edge_types.specs.declared.request.Request.{Request}
use Rattle.edge_types.specs.Answered.{Answered}
use Rattle.edge_types.specs.Outcome.{Shown}
use Rattle.esi_meaning.specs.Ahead.{IsLegal}
use Rattle.esi_meaning.specs.Laws.{IsLogged}
use Rattle.esi_meaning.specs.Meaning.{asked, outcome}
use Rattle.answer_board.specs.Board.{log_of}
use Rattle.answer_board.specs.Sound.{IsBoard}
use Rattle.plan_runner.specs.Page.{Page, Finished}

-- the outcome of the meaning over these answers, among which is that of each URL that is asked for
pub record IsOutcomeOf (request : Request) (levels : ℕ) (url : List ℕ) (log : List Answered) (result : Shown) : Type 0 where
  pub is_outcome : outcome request log levels url ≡ result
  pub all_logged : AllByRecursion (IsLogged log) (asked request log levels url)

-- a page is sound
pub record IsSound (page : Page) : Type 0 where
  -- the answers that are in are a legal log
  pub legal : IsLegal page.request page.url (log_of page.board)
  -- no URL has two slots
  pub board : IsBoard page.board
  -- a page that is done has the outcome over its own log
  pub done : (result : Shown) → page.standing ≡ Finished result → IsOutcomeOf page.request page.levels page.url (log_of page.board) result
