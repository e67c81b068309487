use Rattle.std.proofs.Common.{◌∙◌, sym, ap, subst}
use Rattle.esi_meaning.specs.State.{state}
use Rattle.answer_board.specs.Board.{log_of}
use Rattle.answer_board.specs.Sound.{IsBoard}
use Rattle.plan_runner.specs.Calls.{told_state}
use Rattle.plan_runner.specs.Page.{Page}
use Rattle.plan_runner.proofs.Promises.{done_is_true, rests}
use Rattle.plan_runner.proofs.States.{done_state, true_over, if_ok}
use Rattle.plan_runner.proofs.page.Page.advance.Goals as goal

pub returns-in-Done-clause-told : goal.returns-in-Done-clause-told
returns-in-Done-clause-told c =
    let p = c.self.inside in
    let h = rw c.in-Done.is at c.self.invariant.stage_is in
    let is = ap (λ (v : Page). state v.request (log_of v.board) v.levels v.url) (sym c.self.view_is) ∙ done_state p.request p.levels p.url p.board _ _ h in
    if_ok c.known.result _ _ (λ s e. is ∙ sym e) c.known.ensures.told

pub returns-in-Done-clause-over_every_table : goal.returns-in-Done-clause-over_every_table
returns-in-Done-clause-over_every_table c =
    let p = c.self.inside in
    let v = c.args.self.now in
    let h = rw c.in-Done.is at c.self.invariant.stage_is in
    let is = ap (λ (v : Page). state v.request (log_of v.board) v.levels v.url) (sym c.self.view_is) ∙ done_state p.request p.levels p.url p.board _ _ h in
    let sound = subst IsBoard (ap (λ (v : Page). v.board) c.self.view_is) c.self.invariant.sound in
    if_ok c.known.result _ _ (λ s e. true_over v.request v.levels v.url v.board sound (told_state s) (is ∙ sym e)) c.known.ensures.told

pub returns-in-Ok-clause-over_every_table : goal.returns-in-Ok-clause-over_every_table
returns-in-Ok-clause-over_every_table c =
    let v = c.proceed.new.self in
    true_over v.request v.levels v.url v.board c.in-Ok.ensures.sound (told_state c.in-Ok.state) c.in-Ok.ensures.told

pub returns-in-Done-clause-headline : goal.returns-in-Done-clause-headline
returns-in-Done-clause-headline c =
    let p = c.self.inside in
    let v = c.args.self.now in
    let h = rw c.in-Done.is at c.self.invariant.stage_is in
    let is = ap (λ (v : Page). state v.request (log_of v.board) v.levels v.url) (sym c.self.view_is) ∙ done_state p.request p.levels p.url p.board _ _ h in
    let sound = subst IsBoard (ap (λ (v : Page). v.board) c.self.view_is) c.self.invariant.sound in
    if_ok c.known.result _ _ (λ s e. done_is_true v s _ sound is e) c.known.ensures.told

pub returns-in-Done-clause-asked_alone : goal.returns-in-Done-clause-asked_alone
returns-in-Done-clause-asked_alone c =
    let p = c.self.inside in
    let v = c.args.self.now in
    let h = rw c.in-Done.is at c.self.invariant.stage_is in
    let is = ap (λ (v : Page). state v.request (log_of v.board) v.levels v.url) (sym c.self.view_is) ∙ done_state p.request p.levels p.url p.board _ _ h in
    let sound = subst IsBoard (ap (λ (v : Page). v.board) c.self.view_is) c.self.invariant.sound in
    if_ok c.known.result _ _ (λ s e. rests v s sound (is ∙ sym e)) c.known.ensures.told

pub returns-in-Ok-clause-asked_alone : goal.returns-in-Ok-clause-asked_alone
returns-in-Ok-clause-asked_alone c = rests c.proceed.new.self c.in-Ok.state c.in-Ok.ensures.sound c.in-Ok.ensures.told
