-- What a page comes to is its state.
use Rattle.std.proofs.Common.{◌≡◌, ℕ, zero, suc, List, [], take, find, Some, None, Result, Ok, Err, IfOk, refl, ap}
use Rattle.edge_types.specs.declared.request.Request.{Request}
use Rattle.edge_types.specs.Answered.{Answered}
use Rattle.edge_types.specs.Outcome.{Shown}
use Rattle.edge_types.specs.Table.{answer_of, Agrees}
use Rattle.esi_meaning.specs.Meaning.{most_legs}
use Rattle.esi_meaning.specs.Run.{Asks}
use Rattle.esi_meaning.specs.State.{State, Waiting, Done, lacks, state, waits_at}
use Rattle.esi_meaning.proofs.StateLaws.{waits_for_asked, done_is_outcome}
use Rattle.answer_board.specs.Board as board
use Rattle.answer_board.specs.Board.{log_of}
use Rattle.answer_board.specs.Sound.{IsBoard}
use Rattle.answer_board.proofs.Log.{log-is-looked-up}
use Rattle.plan_machine.specs.Headline.{IsTrueOver}
use Rattle.plan_machine.specs.Told.{told, told_of_answer}
use Rattle.plan_machine.proofs.Ends.{machine_waits}
use Rattle.plan_machine.proofs.Told.{told_is_state}
use Rattle.plan_runner.specs.declared.advance.Progress.{Progress}
use Rattle.plan_runner.specs.Running.{IsWaiting, IsDone}
use Rattle.plan_runner.specs.Shown.{shown_machine}

module _ (r : Request) (L : ℕ) (u : List ℕ) where
  unread_told : (log : List Answered) → answer_of log u ≡ None → told r log L u 0 ≡ Some (Waiting u)
  unfolding told
  unread_told log none = ap (told_of_answer r log L u 0) none

  pub unread_state : (log : List Answered) → answer_of log u ≡ None → state r log L u ≡ Waiting u
  unread_state log none = told_is_state r log L u 0 (Waiting u) (unread_told log none)

  no_legs : (log : List Answered) (n : ℕ) → find (lacks log) (take n []) ≡ None
  no_legs log zero = refl
  no_legs log (suc n) = refl

  pub unread_waits : (log : List Answered) → answer_of log u ≡ None → waits_at r log L u ≡ None
  unfolding waits_at
  unread_waits log none = rw none (no_legs log most_legs)

  module _ (b : board.State) where
    both : (p : Progress) (level : ℕ) (w : List ℕ) → IsWaiting r L u b p level w → (state r (log_of b) L u ≡ Waiting w) × (waits_at r (log_of b) L u ≡ Some (Asks level w))
    both p level w h =
        let x = h.running in
        machine_waits r (log_of b) L u x.tree x.head x.page.control x.page.body x.page.logged x.page.reply x.page.is_template x.page.is_tree x.stands.count (shown_machine b p.machine) x.stands.there level w h.waits

    pub waiting_state : (p : Progress) (level : ℕ) (w : List ℕ) → IsWaiting r L u b p level w → state r (log_of b) L u ≡ Waiting w
    waiting_state p level w h = (both p level w h).0

    pub waiting_leg : (p : Progress) (level : ℕ) (w : List ℕ) → IsWaiting r L u b p level w → waits_at r (log_of b) L u ≡ Some (Asks level w)
    waiting_leg p level w h = (both p level w h).1

    pub done_state : (steps : ℕ) (o : Shown) → IsDone r L u b steps o → state r (log_of b) L u ≡ Done o
    done_state steps o h = told_is_state r (log_of b) L u h.count (Done o) h.tells

-- what is told is true over every table that agrees with the log
pub true_over : (r : Request) (L : ℕ) (u : List ℕ) (b : board.State) → IsBoard b → (s : State) → state r (log_of b) L u ≡ s → (table : List Answered) → Agrees (log_of b) table → IsTrueOver (log_of b) table r L u s
true_over r L u b sound (Waiting w) is table agrees = let x = waits_for_asked r (log_of b) table L u w (log-is-looked-up b sound).once agrees is in (x.1, x.0)
true_over r L u b sound (Done o) is table agrees = (done_is_outcome r (log_of b) table L u o (log-is-looked-up b sound).once agrees is).0

pub if_ok : {X E : Type 0} (x : Result X E) (P Q : X → Type 0) → ((s : X) → P s → Q s) → IfOk x P → IfOk x Q
if_ok (Ok s) P Q f h = f s h
if_ok (Err e) P Q f h = tt
