-- What a leg leads to.
use Rattle.std.proofs.Common.{◌≡◌, ℕ, zero, suc, ◌-◌, ◌<◌, List, ◌∷◌, Option, Some, None, refl, sym, ◌∙◌, ap, arith, option_and_then}
use Rattle.edge_types.specs.declared.request.Request.{Request}
use Rattle.edge_types.specs.Answered.{Answered}
use Rattle.edge_types.specs.Asked.{resolve}
use Rattle.edge_types.specs.Table.{answer_of}
use Rattle.esi_vars.specs.declared.part.Part.{Part}
use Rattle.esi_vars.specs.Values.{substituted}
use Rattle.plan_compiler.specs.declared.inline.Inline.{Inline}
use Rattle.plan_compiler.specs.Bodies.{entries}
use Rattle.plan_compiler.specs.Urls.{entry_for}
use Rattle.answer_board.specs.Board.{State, number_of, answer_at, log_of}
use Rattle.answer_board.specs.Sound.{IsBoard}
use Rattle.answer_board.proofs.Log.{log-answers}
use Rattle.plan_machine.specs.Machine.{Frame, asking_leg, named_leg, resolved_leg, leg_at}
use Rattle.plan_runner.specs.Targets.{Missing, asked_target, named_target, resolved_target, target_of, acted, found_at}
use Rattle.plan_runner.proofs.Replies.{url_of_answer}

pub target_above : (r : Request) (log : List Answered) (u : List ℕ) (inlines : List Inline) (s : List Part) (n : ℕ) → 0 < n → target_of r log u inlines s n ≡ resolved_target log u inlines (resolve u (substituted r s))
target_above r log u inlines s zero h = absurd (omega arith)
target_above r log u inlines s (suc n) h = refl

-- the slot of a URL is filled: the log has its answer
pub found_is : (b : State) → IsBoard b → (w : List ℕ) (number : ℕ) (a : Answered) → Some number ≡ number_of b.slots w → Some a ≡ answer_at b.slots number
    → found_at (answer_at b.slots number) ≡ asked_target w (answer_of (log_of b) w)
found_is b sound w number a is there =
    let e : answer_of (log_of b) w ≡ Some a = log-answers b sound w ∙ ap (λ (o : Option ℕ). option_and_then (answer_at b.slots) o) (sym is) ∙ sym there in
    ap found_at (sym there) ∙ ap (asked_target w) (sym e)

-- it isn't: the log has none
pub missing_is : (b : State) → IsBoard b → (w : List ℕ) → option_and_then (answer_at b.slots) (number_of b.slots w) ≡ None → Missing w ≡ asked_target w (answer_of (log_of b) w)
missing_is b sound w none = ap (asked_target w) (sym (log-answers b sound w ∙ none))

module _ (r : Request) (log : List Answered) (legs : ℕ) (out : List (List ℕ)) (f : Frame) (fs : List Frame) where
  asking_acts : (n : ℕ) (w : List ℕ) → f.level ≡ suc n → (o : Option Answered) → answer_of log w ≡ o → asking_leg r log legs out (f ∷ fs) n w o ≡ acted r log legs out f fs (asked_target w o)
  asking_acts n w level None is = rw level refl
  asking_acts n w level (Some a) is =
      let url : a.url ≡ w = url_of_answer log w a is in
      let below : f.level - 1 ≡ n = omega arith in
      rw (url, below) refl

  named_acts : (n : ℕ) (w : List ℕ) → f.level ≡ suc n → (o : Option Inline) → named_leg r log legs out f fs n w o ≡ acted r log legs out f fs (named_target log w o)
  named_acts n w level (Some i) = let below : f.level - 1 ≡ n = omega arith in rw below refl
  named_acts n w level None = asking_acts n w level (answer_of log w) refl

  resolved_acts : (n : ℕ) → f.level ≡ suc n → (o : Option (List ℕ)) → resolved_leg r log legs out f fs n o ≡ acted r log legs out f fs (resolved_target log f.url (entries f.tree) o)
  unfolding entry_for
  resolved_acts n level None = refl
  resolved_acts n level (Some w) = named_acts n w level (entry_for f.url w f.tree)

  level_acts : (s : List Part) (n : ℕ) → f.level ≡ n → leg_at r log legs out f fs s n ≡ acted r log legs out f fs (target_of r log f.url (entries f.tree) s n)
  level_acts s zero level = refl
  level_acts s (suc n) level = resolved_acts n level (resolve f.url (substituted r s))

  pub leg_acts : (s : List Part) → leg_at r log legs out f fs s f.level ≡ acted r log legs out f fs (target_of r log f.url (entries f.tree) s f.level)
  leg_acts s = level_acts s f.level refl
