-- What a page tells is so over every table, and what it opens.
use Rattle.std.proofs.Common.{◌≡◌, ℕ, List, Option, Some, None, is_some, IsSome, option_and_then, refl, sym, ◌∙◌, ap, subst}
use Rattle.std.specs.Arc.{arc_value}
use Rattle.std.specs.List.{AllByRecursion}
use Rattle.edge_types.specs.declared.request.Request.{Request}
use Rattle.edge_types.specs.Answered.{Answered}
use Rattle.edge_types.specs.Outcome.{Shown, shown}
use Rattle.edge_types.specs.Table.{answer_of, IsTable}
use Rattle.esi_meaning.specs.Laws.{SameReply}
use Rattle.esi_meaning.specs.Meaning.{asked}
use Rattle.esi_meaning.specs.State.{Waiting, Done, state}
use Rattle.esi_meaning.proofs.OutcomeLemmas.{rests_on_asked}
use Rattle.esi_meaning.proofs.StateLaws.{waits_for_asked, done_is_outcome}
use Rattle.esi_meaning.proofs.StateLemmas.{agrees_itself}
use Rattle.answer_board.specs.Board.{State, Slot, number_of, answer_in, answer_at, with_slot, Opens, log_of}
use Rattle.answer_board.specs.Sound.{IsBoard}
use Rattle.answer_board.proofs.Log.{slot_of_number, log-answers, log-is-looked-up}
use Rattle.plan_runner.specs.declared.page.State as told
use Rattle.plan_runner.specs.declared.page.State.TheVariants as tells
use Rattle.plan_runner.specs.Board.{IsWhole}
use Rattle.plan_runner.specs.Calls.{told_state, IsOutcomeOver, IsFilled}
use Rattle.plan_runner.specs.Headline.{TellsTheTruth}
use Rattle.plan_runner.specs.Page.{Page}
use Rattle.plan_runner.proofs.Boards.{number_new}

-- a URL that is waited for has a slot
abbrev pub HasSlotFor : told.State → State → Type 0
HasSlotFor (tells.Waiting url) b = IsSome (number_of b.slots url)
HasSlotFor (tells.Done result) b = Unit {0}

pub is_true : (v : Page) (s : told.State) → IsBoard v.board → state v.request (log_of v.board) v.levels v.url ≡ told_state s → HasSlotFor s v.board → TellsTheTruth v s
is_true v (tells.Waiting url) sound is slot table agrees =
    let x = waits_for_asked v.request (log_of v.board) table v.levels v.url url (log-is-looked-up v.board sound).once agrees is in
    (x.1, slot, x.0)
is_true v (tells.Done result) sound is slot table agrees = (done_is_outcome v.request (log_of v.board) table v.levels v.url (shown (arc_value result)) (log-is-looked-up v.board sound).once agrees is).0

-- a page that is done waits for nothing
pub done_is_true : (v : Page) (s : told.State) (o : Shown) → IsBoard v.board → state v.request (log_of v.board) v.levels v.url ≡ Done o → told_state s ≡ Done o → TellsTheTruth v s
done_is_true v (tells.Waiting url) o sound is same = absurd (cc)
done_is_true v (tells.Done result) o sound is same = is_true v (tells.Done result) sound (is ∙ sym same) tt

-- the outcome rests on what is asked alone
pub rests : (v : Page) (s : told.State) → IsBoard v.board → state v.request (log_of v.board) v.levels v.url ≡ told_state s → (table : List Answered)
    → AllByRecursion (SameReply (log_of v.board) table) (asked v.request (log_of v.board) v.levels v.url) → IsOutcomeOver table v s
rests v (tells.Waiting url) sound is table same = tt
rests v (tells.Done result) sound is table same =
    let once : IsTable (log_of v.board) = (log-is-looked-up v.board sound).once in
    sym ((rests_on_asked v.request (log_of v.board) table v.levels v.url same).1)
    ∙ (done_is_outcome v.request (log_of v.board) (log_of v.board) v.levels v.url (shown (arc_value result)) once (agrees_itself (log_of v.board) once) is).0

-- a URL whose answer isn't in has no slot where all slots are filled
pub not_filled : (b : State) → IsBoard b → (w : List ℕ) (n : ℕ) → number_of b.slots w ≡ Some n → answer_of (log_of b) w ≡ None → IsFilled b → ⊥
not_filled b sound w n number none filled =
    let slot = slot_of_number b.slots w n number in
    let here : answer_of (log_of b) w ≡ answer_in slot.0.standing =
    log-answers b sound w ∙ ap (option_and_then (answer_at b.slots)) number ∙ ap (option_and_then (λ (s : Slot). answer_in s.standing)) slot.1 in
    let some : is_some (answer_in slot.0.standing) ≡ _ = filled n slot.0 slot.1 in
    let no = ap is_some (sym here ∙ none) in
    absurd (cc)

module _ (r : Request) (L : ℕ) (u : List ℕ) (b c : State) (sound : IsBoard b) (w : List ℕ) (depth number : ℕ) (opens : Opens (number_of b.slots w) w depth b number c) where
  pub waits_slotted : IsSome (number_of c.slots w)
  waits_slotted = by_number (number_of b.slots w) refl opens
    where
      by_number : (o : Option ℕ) → number_of b.slots w ≡ o → Opens o w depth b number c → IsSome (number_of c.slots w)
      by_number (Some n) is step = ap is_some (ap (λ (x : State). number_of x.slots w) step.1 ∙ is)
      by_number None is step = subst (λ (x : State). IsSome (number_of x.slots w)) (sym step.1) (number_new b w depth is)

  pub waits_appended : state r (log_of b) L u ≡ Waiting w → IsFilled b → (deep : ℕ) × (c ≡ with_slot w deep b)
  waits_appended waits filled = by_number (number_of b.slots w) refl opens
    where
      once : IsTable (log_of b)
      once = (log-is-looked-up b sound).once

      by_number : (o : Option ℕ) → number_of b.slots w ≡ o → Opens o w depth b number c → (deep : ℕ) × (c ≡ with_slot w deep b)
      by_number (Some n) is step = absurd (not_filled b sound w n is (waits_for_asked r (log_of b) (log_of b) L u w once (agrees_itself (log_of b) once) waits).1 filled)
      by_number None is step = (depth, step.1)

-- a page whose own answer isn't in
module _ (r : Request) (L : ℕ) (u : List ℕ) (ahead room : ℕ) (b : State) (sound : IsBoard b) (whole : IsWhole r L u ahead room b) where
  pub unread_slotted : IsSome (number_of b.slots u)
  unread_slotted = ap is_some whole.own

  pub unread_filled : answer_of (log_of b) u ≡ None → IsFilled b → ⊥
  unread_filled none filled = not_filled b sound u 0 whole.own none filled
