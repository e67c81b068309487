-- What a leg's answer comes to, as the code finds it.
use Rattle.std.proofs.Common.{◌≡◌, ℕ, zero, ◌-◌, true, false, List, [], ◌∷◌, length, Some, None, Err, refl, ◌∙◌, ap}
use Rattle.edge_types.specs.declared.request.Request.{Request}
use Rattle.edge_types.specs.Answered.{Answered, succeeded, processed, body_of}
use Rattle.edge_types.specs.Pieces.{with_piece}
use Rattle.edge_types.proofs.AnswerLemmas.{plain_as_fragment, template_as_fragment, failed_as_fragment}
use Rattle.esi_tree.specs.Reading.{tree_of}
use Rattle.plan_compiler.specs.declared.plan.Plan.{Plan}
use Rattle.plan_compiler.specs.Code.{code_of}
use Rattle.plan_compiler.specs.Prepared.{IsPlanOf}
use Rattle.plan_compiler.specs.Shown.{steps_in}
use Rattle.answer_board.specs.Board.{State, answer_at}
use Rattle.plan_runner.specs.declared.frames.Frame as code_frame
use Rattle.plan_machine.specs.Machine.{Frame, Machine, Went, goes, unwound}
use Rattle.plan_runner.specs.Shown.{shown_frame, IsPlaced}
use Rattle.plan_runner.specs.Targets.{acted, found_at}

module _ (r : Request) (log : List Answered) (b : State) (legs : ℕ) (out : List (List ℕ)) (f : Frame) (fs : List Frame) (i : ℕ) (new : Machine) where
  pub none_acts : answer_at b.slots i ≡ None → new ≡ unwound legs out (f ∷ fs) → acted r log legs out f fs (found_at (answer_at b.slots i)) ≡ Went new
  none_acts e is = rw (e, is) refl

  pub error_acts : (a : Answered) → answer_at b.slots i ≡ Some a → succeeded a.reply ≡ false → new ≡ unwound legs out (f ∷ fs) → acted r log legs out f fs (found_at (answer_at b.slots i)) ≡ Went new
  error_acts a e error is = rw (e, failed_as_fragment a.reply error, error, is) refl

  pub plain_acts : (a : Answered) → answer_at b.slots i ≡ Some a → succeeded a.reply ≡ true → processed a.reply ≡ false → new ≡ goes legs (with_piece out (body_of a.reply)) (f ∷ fs) → acted r log legs out f fs (found_at (answer_at b.slots i)) ≡ Went new
  plain_acts a e fetched plain is = rw (e, plain_as_fragment a.reply plain, fetched, is) refl

  pub bad_acts : (a : Answered) (at : ℕ) → answer_at b.slots i ≡ Some a → succeeded a.reply ≡ true → (processed a.reply ≡ true) × (tree_of (body_of a.reply) ≡ Err at) → new ≡ unwound legs out (f ∷ fs) → acted r log legs out f fs (found_at (answer_at b.slots i)) ≡ Went new
  bad_acts a at e fetched bad is = rw (e, template_as_fragment a.reply bad.0 fetched, bad.1, is) refl

  pub planned_acts : (a : Answered) (plan : Plan) (g : code_frame.Frame) → answer_at b.slots i ≡ Some a → succeeded a.reply ≡ true → processed a.reply ≡ true → IsPlanOf (body_of a.reply) plan → g.slot ≡ i → g.at ≡ zero → g.end ≡ length (steps_in plan) → g.level ≡ f.level - 1 → g.handlers ≡ []
      → new ≡ goes legs out (shown_frame b g ∷ f ∷ fs) → acted r log legs out f fs (found_at (answer_at b.slots i)) ≡ Went new
  planned_acts a plan g e fetched template p slot at end level handlers is =
      let far : g.end ≡ length (code_of p.t) = end ∙ ap length p.steps_are in
      rw (is, slot, e, template_as_fragment a.reply template fetched, p.read, at, far, level, handlers) refl

pub planned_placed : (b : State) (i : ℕ) (a : Answered) (plan : Plan) (g : code_frame.Frame) → answer_at b.slots i ≡ Some a → processed a.reply ≡ true → IsPlanOf (body_of a.reply) plan → g.slot ≡ i → IsPlaced b g
planned_placed b i a plan g e template p slot = record { answer = a; tree = p.t; there = rw slot e; is_processed = template; is_tree = p.read }
