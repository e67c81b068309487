use Rattle.std.proofs.Common.{◌∙◌, ℕ, sym, ap, subst}
use Rattle.edge_types.specs.Outcome.{shown}
use Rattle.plan_runner.specs.declared.advance.Progress.{Progress}
use Rattle.plan_runner.specs.Running.{IsDone}
use Rattle.plan_runner.proofs.course.begin_and_go_on.Goals as goal

pub returns-in-Done : goal.returns-in-Done
returns-in-Done c =
    let both = rw c.in-Done.is at c.in_ok-begin.ensures in
    let none = ap (λ (p : Progress). p.steps) both.1 ∙ c.requires.fresh in
    (subst (λ (n : ℕ). IsDone c.args.setting.now.request.now c.args.levels c.args.url.now c.args.setting.now.board.now n (shown c.in-Done.outcome)) (sym none) both.0, λ e. absurd (both.2 e))
