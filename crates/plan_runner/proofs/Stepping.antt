-- A step of the code is a step of the machine.
use Rattle.std.proofs.Common.{◌≡◌, ℕ, ◌+◌, ◌≤◌, List, [], ◌∷◌, length, slice_get, Option, Some, refl, sym, ◌∙◌, ap, subst, arith}
use Rattle.plan_compiler.specs.Laws.{skip_of}
use Rattle.plan_compiler.proofs.Jumps.{jumps_stay}
use Rattle.edge_types.specs.declared.request.Request.{Request}
use Rattle.edge_types.specs.Answered.{Answered, body_of}
use Rattle.plan_compiler.specs.declared.plan.Plan.{Plan}
use Rattle.plan_compiler.specs.Code.{code_of}
use Rattle.plan_compiler.specs.Prepared.{IsPlanOf}
use Rattle.plan_compiler.specs.Shown.{steps_in}
use Rattle.answer_board.specs.Board.{State, answer_at, log_of}
use Rattle.plan_compiler.specs.Plan.{Step}
use Rattle.plan_runner.specs.declared.frames.Frame as code_frame
use Rattle.plan_runner.specs.declared.machine.Machine as code_machine
use Rattle.plan_runner.specs.declared.step.Reached as code
use Rattle.plan_machine.specs.Machine.{Machine, Next, Rests, step_here, step_in, step}
use Rattle.plan_runner.specs.Reached.{Reaches}
use Rattle.plan_runner.specs.Shown.{tree_in, shown_frame, shown_frames, shown_machine}

pub reaches_same : (next other : Next) (old first new : Machine) (reached : code.Reached) → next ≡ other → old ≡ first → Reaches next old new reached → Reaches other first new reached
reaches_same next other old first new reached a b h = subst (λ (m : Machine). Reaches other m new reached) b (subst (λ (x : Next). Reaches x old new reached) a h)

-- no step of a plan that is there goes past the end of it
pub short_step : (text : List ℕ) (plan : Plan) (i : ℕ) (s : Step) (n most : ℕ) → IsPlanOf text plan → Some s ≡ slice_get (steps_in plan) i → n ≡ length (steps_in plan) → n ≤ most → i + 1 + skip_of s ≤ most
short_step text plan i s n most p here is fits =
    let there : slice_get (code_of p.t) i ≡ Some s = ap (λ (xs : List Step). slice_get xs i) (sym p.steps_are) ∙ sym here in
    omega (arith, jumps_stay p.t i s there, ap length p.steps_are, is, fits)

module _ (r : Request) (b : State) (m : code_machine.Machine) where
  pub step_none : m.frames ≡ [] → step r (log_of b) (shown_machine b m) ≡ Rests
  unfolding step
  step_none e = ap (λ (fs : List code_frame.Frame). step_in r (log_of b) m.legs m.out (shown_frames b fs)) e

  pub step_of_frame : (f : code_frame.Frame) (rest : List code_frame.Frame) (a : Answered) (plan : Plan) (o : Option Step) → m.frames ≡ f ∷ rest → answer_at b.slots f.slot ≡ Some a → IsPlanOf (body_of a.reply) plan → o ≡ slice_get (steps_in plan) f.at
      → step r (log_of b) (shown_machine b m) ≡ step_here r (log_of b) m.legs m.out (shown_frame b f) (shown_frames b rest) o
  unfolding step
  step_of_frame f rest a plan o is there p here =
      let tree : tree_in (answer_at b.slots f.slot) ≡ p.t = rw (there, p.read) refl in
      let steps : code_of (tree_in (answer_at b.slots f.slot)) ≡ steps_in plan = ap code_of tree ∙ sym p.steps_are in
      ap (λ (fs : List code_frame.Frame). step_in r (log_of b) m.legs m.out (shown_frames b fs)) is
      ∙ ap (λ (xs : List Step). step_here r (log_of b) m.legs m.out (shown_frame b f) (shown_frames b rest) (slice_get xs f.at)) steps
      ∙ ap (λ (x : Option Step). step_here r (log_of b) m.legs m.out (shown_frame b f) (shown_frames b rest) x) (sym here)
