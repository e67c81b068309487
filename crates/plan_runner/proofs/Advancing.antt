-- What the loops over steps keep.
use Rattle.std.proofs.Common.{◌≡◌, ℕ, suc, ◌+◌, min, List, Some, refl, sym, ◌∙◌, ap, subst, arith}
use Rattle.edge_types.specs.declared.request.Request.{Request}
use Rattle.edge_types.specs.Answered.{Answered}
use Rattle.answer_board.specs.Board.{State, log_of}
use Rattle.plan_runner.specs.declared.advance.Progress.{Progress}
use Rattle.plan_runner.specs.declared.step.Reached as code
use Rattle.plan_runner.specs.declared.step.Reached.TheVariants as reached
use Rattle.plan_machine.specs.Machine.{Machine, Went, gone, stepped, step, after}
use Rattle.plan_machine.specs.Progress.{weight, Ready, Falls}
use Rattle.plan_runner.specs.Reached.{Reaches, Stops}
use Rattle.plan_runner.specs.Resumed.{StandsAt, Told, IfWent}
use Rattle.plan_runner.specs.Shown.{shown_machine}
use Rattle.plan_machine.proofs.Progress.{step_leaves}

module _ (r : Request) (log : List Answered) where
  pub one_more : (k : ℕ) (first m n : Machine) → after r log k first ≡ Some m → step r log m ≡ Went n → after r log (suc k) first ≡ Some n
  unfolding after
  one_more k first m n e is = ap (stepped r log) e ∙ ap gone is

module _ (r : Request) (b : State) where
  pub stands_more : (first : Machine) (old new : Progress) → StandsAt r b first old → step r (log_of b) (shown_machine b old.machine) ≡ Went (shown_machine b new.machine)
      → new.steps ≡ min (old.steps + 1) 18446744073709551615 → StandsAt r b first new
  stands_more first old new s e n = record {
    count = suc s.count;
    there = one_more r (log_of b) s.count first (shown_machine b old.machine) (shown_machine b new.machine) s.there e;
    steps = omega (arith, n, s.steps);
  }

  pub stands_same : (first : Machine) (old new : Progress) → StandsAt r b first old → shown_machine b new.machine ≡ shown_machine b old.machine → new.steps ≡ old.steps → StandsAt r b first new
  stands_same first old new s e n = record { count = s.count; there = s.there ∙ ap Some (sym e); steps = n ∙ s.steps }

module _ (r : Request) (log : List Answered) where
  -- a step that wasn't made left the machine as it was
  pub told_same : (old new : Machine) (x : code.Reached) → Reaches (step r log old) old new x → (x ≡ reached.Went → ⊥) → new ≡ old
  told_same old new reached.Went h never = absurd (never refl)
  told_same old new (reached.Waits level url) h never = h.1
  told_same old new reached.TooMany h never = h.1
  told_same old new reached.End h never = h.1

  pub told_is : (old new : Machine) (x : code.Reached) → Reaches (step r log old) old new x → Told (step r log new) x
  told_is old new reached.Went h = tt
  told_is old new (reached.Waits level url) h = ap (step r log) h.1 ∙ h.0
  told_is old new reached.TooMany h = ap (step r log) h.1 ∙ h.0
  told_is old new reached.End h = ap (step r log) h.1 ∙ h.0

  pub falls_is : (old new : Machine) (x : code.Reached) → Ready old.failed old.frames → Reaches (step r log old) old new x → IfWent x (Falls old.legs (weight old.frames) new)
  falls_is old new reached.Went ready h = (step_leaves r log old new ready h).0
  falls_is old new (reached.Waits level url) ready h = tt
  falls_is old new reached.TooMany ready h = tt
  falls_is old new reached.End ready h = tt

  pub ready_is : (old new : Machine) (x : code.Reached) → Ready old.failed old.frames → Reaches (step r log old) old new x → Ready new.failed new.frames
  ready_is old new reached.Went ready h = (step_leaves r log old new ready h).1
  ready_is old new (reached.Waits level url) ready h = subst (λ (m : Machine). Ready m.failed m.frames) (sym h.1) ready
  ready_is old new reached.TooMany ready h = subst (λ (m : Machine). Ready m.failed m.frames) (sym h.1) ready
  ready_is old new reached.End ready h = subst (λ (m : Machine). Ready m.failed m.frames) (sym h.1) ready

pub stops_if : (x : code.Reached) → (x ≡ reached.Went → ⊥) → Stops x
stops_if reached.Went never = never refl
stops_if (reached.Waits level url) never = tt
stops_if reached.TooMany never = tt
stops_if reached.End never = tt

pub if_went : (x : code.Reached) (P : Type 0) → (x ≡ reached.Went → ⊥) → IfWent x P
if_went reached.Went P never = absurd (never refl)
if_went (reached.Waits level url) P never = tt
if_went reached.TooMany P never = tt
if_went reached.End P never = tt
