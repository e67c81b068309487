-- What holds of every page, by what it keeps.
use Rattle.std.proofs.Common.{◌≡◌, ℕ, List, Option, option_and_then, ◌∙◌, ap, subst}
use Rattle.edge_types.specs.declared.request.Request.{Request}
use Rattle.edge_types.specs.declared.outcome.PageFault.TheVariants.{IncludeFailed}
use Rattle.edge_types.specs.Outcome.{Shown, Fault}
use Rattle.edge_types.specs.Table.{IsTable}
use Rattle.esi_meaning.proofs.StateLaws.{done_is_outcome}
use Rattle.esi_meaning.proofs.StateLemmas.{agrees_itself}
use Rattle.answer_board.specs.Board.{State, answer_at, log_of}
use Rattle.plan_machine.specs.LastLeg.{failed_answer}
use Rattle.plan_runner.specs.declared.advance.Progress.{Progress}
use Rattle.plan_runner.specs.declared.page.Page.TheInside.{Inside}
use Rattle.plan_runner.specs.declared.page.Stage.{Stage}
use Rattle.plan_runner.specs.declared.page.Stage.TheVariants as stage
use Rattle.plan_runner.specs.Kept.{standing_of, seen, IsStage, IsKept}
use Rattle.plan_runner.specs.LastLeg.{IsFailedPage, IsLegOf}
use Rattle.plan_runner.specs.Page.{Finished, Page}
use Rattle.plan_runner.specs.Sound.{IsOutcomeOf, IsSound}
use Rattle.plan_runner.proofs.LastLegs.{failed_is}
use Rattle.plan_runner.proofs.States.{done_state}

module _ (r : Request) (L : ℕ) (u : List ℕ) (b : State) (once : IsTable (log_of b)) where
  outcome_in : (progress : Progress) (s : Stage) → IsStage r L u b progress s → (o : Shown) → standing_of s ≡ Finished o → IsOutcomeOf r L u (log_of b) o
  outcome_in progress stage.Unread is o e = absurd (cc)
  outcome_in progress stage.Running is o e = absurd (cc)
  outcome_in progress (stage.Done x) is o e =
      let same : x ≡ o = cc in
      let told = done_is_outcome r (log_of b) (log_of b) L u o once (agrees_itself (log_of b) once) (done_state r L u b progress.steps o (subst (λ (y : Shown). IsStage r L u b progress (stage.Done y)) same is)) in
      record { is_outcome = told.0; all_logged = told.1 }
  outcome_in progress stage.Broken is o e = absurd (cc)

pub page_sound : (p : Inside) → IsKept p → IsSound (seen p)
page_sound p h = record {
  legal = h.legal;
  board = h.sound;
  done = outcome_in p.request p.levels p.url p.board h.legal.once p.progress p.stage h.stage_is;
}

-- a page whose outcome is that it failed remembers the leg at which it did
failed_in : (r : Request) (L : ℕ) (u : List ℕ) (b : State) (last : Option ℕ) (s : Stage) → IsLegOf r b L u last s → standing_of s ≡ Finished (Fault IncludeFailed) → IsFailedPage r b L u last
failed_in r L u b last stage.Unread is e = absurd (cc)
failed_in r L u b last stage.Running is e = absurd (cc)
failed_in r L u b last (stage.Done o) is e = is (cc)
failed_in r L u b last stage.Broken is e = absurd (cc)

pub failed_by : (p : Inside) → IsKept p → (v : Page) → seen p ≡ v → v.standing ≡ Finished (Fault IncludeFailed)
    → option_and_then (answer_at p.board.slots) p.last ≡ failed_answer v.request (log_of v.board) v.levels v.url
failed_by p h v view finished =
    let failed : IsFailedPage p.request p.board p.levels p.url p.last = failed_in p.request p.levels p.url p.board p.last p.stage h.leg_is (ap (λ (x : Page). x.standing) view ∙ finished) in
    failed_is p.request p.board p.levels p.url p.last failed ∙ ap (λ (x : Page). failed_answer x.request (log_of x.board) x.levels x.url) view
