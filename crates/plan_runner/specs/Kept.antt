-- What holds of every page.
use Rattle.std.specs.Prelude.{◌≡◌, ℕ, List, ⊤}
use Rattle.edge_types.specs.declared.request.Request.{Request}
use Rattle.esi_meaning.specs.Ahead.{IsLegal}
use Rattle.esi_meaning.specs.Meaning.{AreLevels}
use Rattle.answer_board.specs.Board.{State, log_of}
use Rattle.answer_board.specs.Sound.{IsBoard}
use Rattle.plan_runner.specs.declared.advance.Progress.{Progress}
use Rattle.plan_runner.specs.declared.page.Page.TheInside.{Inside}
use Rattle.plan_runner.specs.declared.page.Stage.{Stage}
use Rattle.plan_runner.specs.declared.page.Stage.TheVariants.{Unread, Running, Done, Broken}
use Rattle.plan_runner.specs.Board.{StandsBoard}
use Rattle.plan_runner.specs.LastLeg.{IsLegOf}
use Rattle.plan_runner.specs.Page as page
use Rattle.plan_runner.specs.Page.{Standing}
use Rattle.plan_runner.specs.Running.{IsRunning, IsDone}

abbrev pub standing_of : Stage → Standing
standing_of Unread = page.Underway
standing_of Running = page.Underway
standing_of (Done outcome) = page.Finished outcome
standing_of Broken = page.Broken

-- what clauses see
abbrev pub seen : Inside → page.Page
seen p = record { url = p.url; request = p.request; levels = p.levels; board = p.board; ahead = p.ahead; room = p.room; steps = p.progress.steps; standing = standing_of p.stage }

-- what holds of a page by how far it is: over the logged answers alone
abbrev pub IsStage : Request → ℕ → List ℕ → State → Progress → Stage → Type 0
IsStage r L u b p Unread = p.steps ≡ 0
IsStage r L u b p Running = IsRunning r L u b p
IsStage r L u b p (Done outcome) = IsDone r L u b p.steps outcome
IsStage r L u b p Broken = ⊤

pub record IsKept (p : Inside) : Type 0 where
  pub sound : IsBoard p.board
  pub levels : AreLevels p.levels
  pub legal : IsLegal p.request p.url (log_of p.board)
  pub board_is : StandsBoard p.request p.levels p.url p.ahead p.room p.board p.stage
  pub stage_is : IsStage p.request p.levels p.url p.board p.progress p.stage
  pub leg_is : IsLegOf p.request p.board p.levels p.url p.last p.stage
