-- What the machine does with the steps of one frame. Legs are a function, as in the meaning.
use Rattle.std.specs.Prelude.{ℕ, zero, suc, ◌-◌, List, [], ◌∷◌, ◌++◌, map, Option, Some, None, if◌then◌else◌}
use Rattle.edge_types.specs.declared.request.Request.{Request}
use Rattle.esi_vars.specs.declared.part.Part.{Part}
use Rattle.esi_vars.specs.Values.{substituted}
use Rattle.esi_expr.specs.Truth.{holds}
use Rattle.esi_meaning.specs.Run.{Run, gives, followed}
use Rattle.plan_compiler.specs.Plan.{Step, Text, Values, Test, Jump, Try, EndTry, Leg}

-- where a failure goes on: this many steps from here, with the output cut back to the mark
pub record Handler : Type 0 where
  pub distance : ℕ
  pub mark : List ℕ

-- the same handlers, one step further on
abbrev pub one_nearer : Handler → Handler
one_nearer h = record { distance = h.distance - 1; mark = h.mark }

abbrev pub nearer : List Handler → List Handler
nearer hs = map one_nearer hs

-- all but the innermost
abbrev pub outer : List Handler → List Handler
outer [] = []
outer (h ∷ hs) = hs

-- what comes next: the steps to skip, the handlers, the innermost first, and the output so far
abbrev pub Next : Type 0
Next = ℕ → List Handler → List ℕ → Run

-- a failure goes on at the innermost handler; without one the frame has failed
abbrev pub failing : Next → List Handler → Run
failing next [] = gives None
failing next (h ∷ hs) = next h.distance hs h.mark

-- goes on after a leg, with its text after the output
abbrev pub resumed : Next → List Handler → List ℕ → Option (List ℕ) → Run
resumed next hs out None = failing next hs
resumed next hs out (Some text) = next 0 hs (out ++ text)

-- one step
abbrev pub act : Request → (List Part → Run) → Step → Next → List Handler → List ℕ → Run
act r leg (Text text) next hs out = next 0 hs (out ++ text)
act r leg (Values parts) next hs out = next 0 hs (out ++ substituted r parts)
act r leg (Test test skip) next hs out = next (if holds r test then 0 else skip) hs out
act r leg (Jump skip) next hs out = next skip hs out
act r leg (Try skip) next hs out = next 0 (record { distance = skip; mark = out } ∷ hs) out
act r leg (EndTry skip) next hs out = next skip (outer hs) out
act r leg (Leg source) next hs out = followed (leg source) (resumed next hs out)

-- the steps that are left, after those to skip: their legs in order, and the whole output at their end
abbrev pub flow : Request → (List Part → Run) → ℕ → List Step → List Handler → List ℕ → Run
flow r leg n [] hs out = gives (Some out)
flow r leg zero (s ∷ ss) hs out = act r leg s (λ m. flow r leg m ss) (nearer hs) out
flow r leg (suc n) (s ∷ ss) hs out = flow r leg n ss (nearer hs) out

-- a frame's steps from their start: no handler, no output
abbrev pub frame_run : Request → (List Part → Run) → List Step → Run
frame_run r leg steps = flow r leg 0 steps [] []

-- a frame that may take at most k steps: `stopped` is its result if these don't suffice
abbrev pub flow_within : Run → ℕ → Request → (List Part → Run) → ℕ → List Step → List Handler → List ℕ → Run
flow_within stopped k r leg n [] hs out = gives (Some out)
flow_within stopped k r leg (suc n) (s ∷ ss) hs out = flow_within stopped k r leg n ss (nearer hs) out
flow_within stopped zero r leg zero (s ∷ ss) hs out = stopped
flow_within stopped (suc k) r leg zero (s ∷ ss) hs out = act r leg s (λ m. flow_within stopped k r leg m ss) (nearer hs) out
