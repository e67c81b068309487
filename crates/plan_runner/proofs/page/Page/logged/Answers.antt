use Rattle.std.proofs.Common.{◌∙◌, sym, ap}
use Rattle.answer_board.specs.Board.{log_of}
use Rattle.std.proofs.Common.{slice_get}
use Rattle.plan_runner.specs.Page.{Page}
use Rattle.plan_runner.proofs.Logs.{log_at}
use Rattle.plan_runner.proofs.page.Page.logged.Goals as goal

pub returns-clause-value : goal.returns-clause-value
returns-clause-value c = c.filled_answer.ensures ∙ sym (log_at c.self.inside.board c.self.invariant.sound c.args.i) ∙ ap (λ (v : Page). slice_get (log_of v.board) c.args.i) c.self.view_is
