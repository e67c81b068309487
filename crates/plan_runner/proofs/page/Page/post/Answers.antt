use Rattle.std.proofs.Common.{◌∙◌, ◌++◌, ◌∷◌, [], ap}
use Rattle.answer_board.specs.Board.{log_of}
use Rattle.plan_runner.specs.Page.{Page}
use Rattle.plan_runner.proofs.Keeping.{kept_filled, kept_knows, kept_opened, kept_broken, under, takes_done, takes_underway}
use Rattle.plan_runner.proofs.page.Page.post.Goals as goal

pub invariant_of-self-in-Done : goal.invariant_of-self-in-Done
invariant_of-self-in-Done c =
    kept_filled c.self.inside c.fill.new.self c.args.receipt c.in_default.not-Broken c.self.invariant c.in-Ok.ensures.ok.1 c.in-Ok.ensures.ok.2 c.in-Ok.ensures.log c.in-Ok.ensures.keeps c.in-Ok.ensures.sound

pub returns-in-Done-clause-ok : goal.returns-in-Done-clause-ok
returns-in-Done-clause-ok c = takes_done c.self.inside c.args.self.now c.args.receipt c.fill.new.self c.in-Done.field-0 c.self.view_is c.in-Done.is c.in-Ok.ensures.ok.1 c.in-Ok.ensures.ok.2

pub invariant_of-self-in-Ok-open_ahead : goal.invariant_of-self-in-Ok-open_ahead
invariant_of-self-in-Ok-open_ahead c =
    kept_knows _ c.open_ahead.new.lookups
    (kept_opened c.self.inside c.fill.new.self c.args.receipt c.in_default.not-Broken c.self.invariant c.in-Ok.ensures.ok.1 c.in-Ok.ensures.ok.2 c.in-Ok.ensures.log c.open_ahead.new.board
    c.in-Ok-open_ahead.room c.in-Ok.number c.in-Ok.ensures.keeps c.in-Ok-open_ahead.ensures.keeps c.in-Ok-open_ahead.ensures.log c.in-Ok-open_ahead.ensures.sound c.in-Ok.ensures.ok.0 c.in-Ok-open_ahead.ensures.opens)

pub returns-in-Ok-open_ahead-clause-ok : goal.returns-in-Ok-open_ahead-clause-ok
returns-in-Ok-open_ahead-clause-ok c =
    takes_underway c.self.inside c.args.self.now c.args.receipt c.fill.new.self c.open_ahead.new.board c.in-Ok.number c.in-Ok-open_ahead.room c.self.view_is
    (under c.self.inside.stage c.in_default.not-Broken c.in_default-stage.not-Done) c.in-Ok.ensures.ok.0 c.in-Ok.ensures.ok.1 c.in-Ok.ensures.ok.2 c.in-Ok-open_ahead.ensures.opens

pub invariant_of-self-in-Err : goal.invariant_of-self-in-Err
invariant_of-self-in-Err c =
    kept_knows _ c.open_ahead.new.lookups
    (kept_broken c.self.inside c.fill.new.self c.args.receipt c.in_default.not-Broken c.self.invariant c.in-Ok.ensures.ok.1 c.in-Ok.ensures.ok.2 c.in-Ok.ensures.log c.open_ahead.new.board
    c.in-Ok.ensures.sound c.in-Err.ensures.log c.in-Err.ensures.sound c.in-Err.ensures.few)

pub returns-in-Done-clause-log : goal.returns-in-Done-clause-log
returns-in-Done-clause-log c = c.in-Ok.ensures.log ∙ ap (λ (v : Page). log_of v.board ++ c.args.receipt.answer ∷ []) c.self.view_is

pub returns-in-Ok-open_ahead-clause-log : goal.returns-in-Ok-open_ahead-clause-log
returns-in-Ok-open_ahead-clause-log c =
    c.in-Ok-open_ahead.ensures.log ∙ c.in-Ok.ensures.log ∙ ap (λ (v : Page). log_of v.board ++ c.args.receipt.answer ∷ []) c.self.view_is
