-- A frame takes at most as many steps as its plan is long.
use Rattle.std.proofs.Common.{◌≡◌, ℕ, zero, suc, ◌≤◌, List, [], ◌∷◌, ◌++◌, length, Option, Some, None, if◌then◌else◌, refl, ap, arith}
use Rattle.edge_types.specs.declared.request.Request.{Request}
use Rattle.esi_vars.specs.declared.part.Part.{Part}
use Rattle.esi_vars.specs.Values.{substituted}
use Rattle.esi_expr.specs.Truth.{holds}
use Rattle.esi_meaning.specs.Run.{Run, followed}
use Rattle.esi_meaning.specs.Run as meaning
use Rattle.plan_compiler.specs.Plan.{Step, Text, Values, Test, Jump, Try, EndTry, Leg}
use Rattle.plan_compiler.specs.Machine.{Handler, Next, nearer, outer, failing, resumed, act, flow, flow_within}
use Rattle.plan_compiler.specs.Laws.{FramesAreShort}

abbrev run_of : List meaning.Leg → Option (List ℕ) → Run
run_of legs text = record { legs = legs; text = text }

module _ (r : Request) (leg : List Part → Run) where
  -- what comes next is the same, so it is behind each step
  module _ (f g : Next) (same : (m : ℕ) (hs : List Handler) (out : List ℕ) → f m hs out ≡ g m hs out) where
    same_failing : (hs : List Handler) → failing f hs ≡ failing g hs
    same_failing [] = refl
    same_failing (h ∷ hs) = same h.distance hs h.mark

    same_resumed : (hs : List Handler) (out : List ℕ) (o : Option (List ℕ)) → resumed f hs out o ≡ resumed g hs out o
    same_resumed hs out None = same_failing hs
    same_resumed hs out (Some text) = same 0 hs (out ++ text)

    same_leg : (a : Run) (hs : List Handler) (out : List ℕ) → followed a (resumed f hs out) ≡ followed a (resumed g hs out)
    same_leg a hs out = ap (λ (x : Run). run_of (a.legs ++ x.legs) x.text) (same_resumed hs out a.text)

    same_act : (s : Step) (hs : List Handler) (out : List ℕ) → act r leg s f hs out ≡ act r leg s g hs out
    same_act (Text text) hs out = same 0 hs (out ++ text)
    same_act (Values parts) hs out = same 0 hs (out ++ substituted r parts)
    same_act (Test test skip) hs out = same (if holds r test then 0 else skip) hs out
    same_act (Jump skip) hs out = same skip hs out
    same_act (Try skip) hs out = same 0 (record { distance = skip; mark = out } ∷ hs) out
    same_act (EndTry skip) hs out = same skip (outer hs) out
    same_act (Leg source) hs out = same_leg (leg source) hs out

  enough : (stopped : Run) (ss : List Step) (k : ℕ) → length ss ≤ k → (n : ℕ) (hs : List Handler) (out : List ℕ) → flow_within stopped k r leg n ss hs out ≡ flow r leg n ss hs out
  enough stopped [] k h n hs out = refl
  enough stopped (s ∷ ss) k h (suc n) hs out = enough stopped ss k (omega (arith, h)) n (nearer hs) out
  enough stopped (s ∷ ss) zero h zero hs out = absurd (omega (arith, h))
  enough stopped (s ∷ ss) (suc k) h zero hs out =
      same_act (λ m. flow_within stopped k r leg m ss) (λ m. flow r leg m ss) (enough stopped ss k (omega (arith, h))) s (nearer hs) out

pub frames_are_short : FramesAreShort
frames_are_short stopped r leg steps = enough r leg stopped steps (length steps) (omega arith) 0 [] []
