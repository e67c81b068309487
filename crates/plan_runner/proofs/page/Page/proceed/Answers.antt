use Rattle.std.proofs.Common.{◌∙◌, ◌+◌, ℕ, List, IsSome, refl, sym, ap, subst}
use Rattle.edge_types.specs.Answered.{Answered}
use Rattle.esi_meaning.specs.State as meaning
use Rattle.esi_meaning.specs.State.{state}
use Rattle.answer_board.specs.Board.{number_of, with_slot, log_of}
use Rattle.plan_runner.specs.declared.page.Stage.TheVariants as stage
use Rattle.plan_runner.specs.declared.page.State.TheVariants as tells
use Rattle.plan_runner.specs.Calls.{IsFilled}
use Rattle.plan_runner.specs.Kept.{seen}
use Rattle.plan_runner.specs.Page.{Page}
use Rattle.plan_runner.proofs.Promises.{is_true, unread_slotted, unread_filled, waits_slotted, waits_appended}
use Rattle.plan_runner.proofs.Keeping.{goes_on, whole_of, kept_spoiled, kept_came, kept_waits, moves_unread, moves_waits}
use Rattle.plan_runner.proofs.States.{unread_state, unread_waits, waiting_state, waiting_leg, done_state}
use Rattle.plan_runner.proofs.page.Page.proceed.Goals as goal

pub returns-in-Unread-clause-told : goal.returns-in-Unread-clause-told
returns-in-Unread-clause-told c =
    let p = c.self.inside in
    let came = rw c.in-Unread.is at c.in_ok-run.ensures in
    unread_state p.request p.levels p.url (log_of p.board) came.0 ∙ ap meaning.Waiting (sym c.in_ok-url-in-Unread.ensures)

pub returns-in-Unread-clause-moves : goal.returns-in-Unread-clause-moves
returns-in-Unread-clause-moves c =
    let p = c.self.inside in
    let came = rw c.in-Unread.is at c.in_ok-run.ensures in
    moves_unread p c.args.self.now c.self.view_is (unread_waits p.request p.levels p.url (log_of p.board) came.0)

pub invariant_of-self-in-Waits : goal.invariant_of-self-in-Waits
invariant_of-self-in-Waits c =
    let p = c.self.inside in
    let came = rw c.in-Waits.is at c.in_ok-run.ensures in
    kept_waits p c.run.new.progress c.open.new.self c.in-Waits.url _ _ (goes_on p c.args.self.now c.self.view_is c.requires.underway) c.self.invariant came.running (waiting_state p.request p.levels p.url p.board c.run.new.progress c.in-Waits.level c.in-Waits.url came) c.in_ok-open-in-Waits.ensures.ok
    c.in_ok-open-in-Waits.ensures.keeps c.in_ok-open-in-Waits.ensures.log c.in_ok-open-in-Waits.ensures.sound

pub returns-in-Waits-clause-told : goal.returns-in-Waits-clause-told
returns-in-Waits-clause-told c =
    let p = c.self.inside in
    let came = rw c.in-Waits.is at c.in_ok-run.ensures in
    ap (λ (l : List Answered). state p.request l p.levels p.url) c.in_ok-open-in-Waits.ensures.log ∙ waiting_state p.request p.levels p.url p.board c.run.new.progress c.in-Waits.level c.in-Waits.url came

pub returns-in-Waits-clause-moves : goal.returns-in-Waits-clause-moves
returns-in-Waits-clause-moves c =
    let p = c.self.inside in
    let came = rw c.in-Waits.is at c.in_ok-run.ensures in
    moves_waits p c.args.self.now c.open.new.self _ c.in-Waits.level _ c.in-Waits.url c.self.view_is (waiting_leg p.request p.levels p.url p.board c.run.new.progress c.in-Waits.level c.in-Waits.url came)
    (ap (λ (n : ℕ). n + 1) c.saturating_sub.ensures) c.in_ok-open-in-Waits.ensures.ok

pub returns-clause-told : goal.returns-clause-told
returns-clause-told c =
    let p = c.self.inside in
    let came = rw c.in-Done.is at c.in_ok-run.ensures in
    done_state p.request p.levels p.url p.board _ _ came.0 ∙ ap meaning.Done (sym (c.in_ok-told-in-Done.ensures ∙ c.in_ok-outcome-in-Done.ensures))

pub invariant_of-self : goal.invariant_of-self
invariant_of-self c = kept_spoiled c.self.inside _ _ _ refl c.replace-stage.ensures.after c.self.invariant

pub invariant_of-self-in_err-url-in-Unread : goal.invariant_of-self-in_err-url-in-Unread
invariant_of-self-in_err-url-in-Unread c = kept_spoiled c.self.inside _ _ _ refl c.replace-stage.ensures.after c.self.invariant

pub invariant_of-self-in_err-open-in-Waits : goal.invariant_of-self-in_err-open-in-Waits
invariant_of-self-in_err-open-in-Waits c = kept_spoiled c.self.inside _ _ _ c.in_err-open-in-Waits.ensures.err c.replace-stage.ensures.after c.self.invariant

pub invariant_of-self-in_err-outcome-in-Done : goal.invariant_of-self-in_err-outcome-in-Done
invariant_of-self-in_err-outcome-in-Done c = kept_spoiled c.self.inside _ _ _ refl c.replace-stage.ensures.after c.self.invariant

pub invariant_of-self-in_err-told-in-Done : goal.invariant_of-self-in_err-told-in-Done
invariant_of-self-in_err-told-in-Done c = kept_spoiled c.self.inside _ _ _ refl c.replace-stage.ensures.after c.self.invariant

pub invariant_of-self-in-Unread : goal.invariant_of-self-in-Unread
invariant_of-self-in-Unread c =
    let came = rw c.in-Unread.is at c.in_ok-run.ensures in
    kept_came c.self.inside _ stage.Unread _ (goes_on c.self.inside c.args.self.now c.self.view_is c.requires.underway) (λ e. absurd (cc)) c.self.invariant came.1 tt

pub returns-in-Unread-clause-headline : goal.returns-in-Unread-clause-headline
returns-in-Unread-clause-headline c =
    let p = c.self.inside in
    let came = rw c.in-Unread.is at c.in_ok-run.ensures in
    let url = c.in_ok-url-in-Unread.ensures in
    let whole = whole_of p (goes_on p c.args.self.now c.self.view_is c.requires.underway) c.self.invariant in
    is_true (seen p) (tells.Waiting c.in_ok-url-in-Unread.url) c.self.invariant.sound (unread_state p.request p.levels p.url (log_of p.board) came.0 ∙ ap meaning.Waiting (sym url))
    (subst (λ (w : List ℕ). IsSome (number_of p.board.slots w)) (sym url) (unread_slotted p.request p.levels p.url p.ahead p.room p.board c.self.invariant.sound whole))

pub returns-in-Unread-clause-appended : goal.returns-in-Unread-clause-appended
returns-in-Unread-clause-appended c =
    let p = c.self.inside in
    let came = rw c.in-Unread.is at c.in_ok-run.ensures in
    let whole = whole_of p (goes_on p c.args.self.now c.self.view_is c.requires.underway) c.self.invariant in
    λ filled. absurd (unread_filled p.request p.levels p.url p.ahead p.room p.board c.self.invariant.sound whole came.0 (subst (λ (v : Page). IsFilled v.board) (sym c.self.view_is) filled))

pub returns-in-Waits-clause-headline : goal.returns-in-Waits-clause-headline
returns-in-Waits-clause-headline c =
    let p = c.self.inside in
    let came = rw c.in-Waits.is at c.in_ok-run.ensures in
    let opened = c.in_ok-open-in-Waits.ensures in
    is_true (record (seen p) { board = c.open.new.self }) (tells.Waiting c.in-Waits.url) opened.sound
    (ap (λ (l : List Answered). state p.request l p.levels p.url) opened.log ∙ waiting_state p.request p.levels p.url p.board c.run.new.progress c.in-Waits.level c.in-Waits.url came)
    (waits_slotted p.request p.levels p.url p.board c.open.new.self c.self.invariant.sound c.in-Waits.url _ _ opened.ok)

pub returns-in-Waits-clause-appended : goal.returns-in-Waits-clause-appended
returns-in-Waits-clause-appended c =
    let p = c.self.inside in
    let came = rw c.in-Waits.is at c.in_ok-run.ensures in
    λ filled.
    let made = waits_appended p.request p.levels p.url p.board c.open.new.self c.self.invariant.sound c.in-Waits.url _ _ c.in_ok-open-in-Waits.ensures.ok
    (waiting_state p.request p.levels p.url p.board c.run.new.progress c.in-Waits.level c.in-Waits.url came) (subst (λ (v : Page). IsFilled v.board) (sym c.self.view_is) filled) in
    (made.0, made.1 ∙ ap (λ (v : Page). with_slot c.in-Waits.url made.0 v.board) c.self.view_is)

pub invariant_of-self-in-Done : goal.invariant_of-self-in-Done
invariant_of-self-in-Done c =
    let came = rw c.in-Done.is at c.in_ok-run.ensures in
    let told = rw (← c.in_ok-outcome-in-Done.ensures) at came in
    kept_came c.self.inside _ (stage.Done c.in_ok-outcome-in-Done.outcome) _ (goes_on c.self.inside c.args.self.now c.self.view_is c.requires.underway) (λ e. absurd (cc)) c.self.invariant told.0 told.1

pub returns-clause-headline : goal.returns-clause-headline
returns-clause-headline c =
    let p = c.self.inside in
    let came = rw c.in-Done.is at c.in_ok-run.ensures in
    is_true (seen p) (tells.Done c.in_ok-told-in-Done.told) c.self.invariant.sound
    (done_state p.request p.levels p.url p.board _ _ came.0 ∙ ap meaning.Done (sym (c.in_ok-told-in-Done.ensures ∙ c.in_ok-outcome-in-Done.ensures))) tt
