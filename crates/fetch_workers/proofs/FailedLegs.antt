-- The leg at which an assembled page failed.
use Rattle.std.proofs.Common.{◌≡◌, ℕ, List, Option, subst}
use Rattle.edge_types.specs.declared.request.Request.{Request}
use Rattle.edge_types.specs.Answered.{Answered}
use Rattle.edge_types.specs.Outcome.{Shown}
use Rattle.answer_board.specs.Board.{log_of}
use Rattle.plan_runner.specs.Page.{Page}
use Rattle.fetch_workers.specs.Rests.{IsFailedLeg}

-- the page is the one that was asked for, and this is its log
pub leg_of_page : (page : Page) (url : List ℕ) (request : Request) (levels : ℕ) (log : List Answered) (o : Shown) (leg : Option Answered) → IsFailedLeg page.request page.levels page.url (log_of page.board) o leg
    → (page.url ≡ url) × (page.request ≡ request) × (page.levels ≡ levels) → log_of page.board ≡ log → IsFailedLeg request levels url log o leg
leg_of_page page url request levels log o leg known same logged =
    subst (λ (l : List Answered). IsFailedLeg request levels url l o leg) logged
    (subst (λ (u : List ℕ). IsFailedLeg request levels u (log_of page.board) o leg) same.0
    (subst (λ (n : ℕ). IsFailedLeg request n page.url (log_of page.board) o leg) same.2
    (subst (λ (r : Request). IsFailedLeg r page.levels page.url (log_of page.board) o leg) same.1 known)))
