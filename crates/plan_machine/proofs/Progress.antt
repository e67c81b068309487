-- Why a page's machine ends: each step tries a leg, of which there are few, or leaves less to do.
use Rattle.std.proofs.Common.{◌≡◌, inl, inr, ℕ, zero, suc, ◌+◌, ◌<◌, ◌≤◌, max, Bool, true, false, nat_lt, List, [], ◌∷◌, length, slice_get, Option, Some, None, Result, Ok, Err, if◌then◌else◌, refl, subst, arith}
use borrow.Author.Tests.{ltb-true}
use Rattle.edge_types.specs.declared.request.Request.{Request}
use Rattle.edge_types.specs.declared.answer.Reply.{Reply}
use Rattle.edge_types.specs.Answered.{Answered, succeeded, processed_as_fragment, body_of}
use Rattle.edge_types.specs.Asked.{resolve}
use Rattle.edge_types.specs.Pieces.{with_piece, with_pieces}
use Rattle.edge_types.specs.Table.{answer_of}
use Rattle.esi_vars.specs.declared.part.Part.{Part}
use Rattle.esi_vars.specs.Values.{substituted, value_pieces}
use Rattle.esi_expr.specs.Truth.{holds}
use Rattle.esi_tree.specs.Tree.{Elements}
use Rattle.esi_tree.specs.Reading.{tree_of}
use Rattle.esi_meaning.specs.Meaning.{most_legs}
use Rattle.plan_compiler.specs.Plan.{Step, Text, Values, Test, Jump, Try, EndTry, Leg}
use Rattle.plan_compiler.specs.Code.{code_of}
use Rattle.plan_compiler.specs.declared.inline.Inline.{Inline}
use Rattle.plan_compiler.specs.Urls.{entry_for}
use Rattle.plan_machine.specs.declared.handler.Handler.{Handler}
use Rattle.plan_machine.specs.Machine.{Frame, Machine, Next, Went, TooMany, settled, moved, handled, goes, at_handler, unwound, without_first, plain_leg, template_leg, asking_leg, named_leg, resolved_leg, leg_at, doing, step_here, step_in, step}
use Rattle.plan_machine.specs.Progress.{weight, Ready, Falls}
use Rattle.plan_machine.proofs.Stacks.{settled_ready, unwound_ready, unwound_legs}

weight_if : (f : Frame) (fs : List Frame) → weight (settled fs) ≤ weight fs → (b : Bool) → weight (if b then f ∷ fs else settled fs) ≤ weight (f ∷ fs)
weight_if f fs h true = omega arith
weight_if f fs h false = omega (arith, h)

weight_settled : (fs : List Frame) → weight (settled fs) ≤ weight fs
weight_settled [] = omega arith
weight_settled (f ∷ fs) = weight_if f fs (weight_settled fs) (nat_lt f.at f.end)

weight_handler : (legs : ℕ) (out : List (List ℕ)) (f : Frame) (fs : List Frame) (rest : Machine) (hs : List Handler) → weight rest.frames ≤ weight fs → weight (at_handler rest legs out f fs hs).frames ≤ weight (f ∷ fs)
weight_handler legs out f fs rest [] h = omega (arith, h)
weight_handler legs out f fs rest (x ∷ hs) h = omega (arith, weight_settled (handled f (max f.at x.to) hs ∷ fs))

weight_unwound : (legs : ℕ) (out : List (List ℕ)) (fs : List Frame) → weight (unwound legs out fs).frames ≤ weight fs
weight_unwound legs out [] = omega arith
weight_unwound legs out (f ∷ fs) = weight_handler legs out f fs (unwound legs out fs) f.handlers (weight_unwound legs out fs)

module _ (r : Request) (log : List Answered) where
  abbrev IsWith : ℕ → Next → Type 0
  IsWith legs next = (n : Machine) → next ≡ Went n → (n.legs ≡ legs) × Ready n.failed n.frames

  goes_with : (legs : ℕ) (out : List (List ℕ)) (fs : List Frame) → IsWith legs (Went (goes legs out fs))
  goes_with legs out fs n e = let same : goes legs out fs ≡ n = cc in subst (λ (m : Machine). (m.legs ≡ legs) × Ready m.failed m.frames) same (refl, settled_ready fs)

  unwound_with : (legs : ℕ) (out : List (List ℕ)) (fs : List Frame) → IsWith legs (Went (unwound legs out fs))
  unwound_with legs out fs n e = let same : unwound legs out fs ≡ n = cc in subst (λ (m : Machine). (m.legs ≡ legs) × Ready m.failed m.frames) same (unwound_legs legs out fs, unwound_ready legs out fs)

  plain_with : (legs : ℕ) (out : List (List ℕ)) (fs : List Frame) (body : List ℕ) (b : Bool) → IsWith legs (Went (if b then goes legs (with_piece out body) fs else unwound legs out fs))
  plain_with legs out fs body true = goes_with legs (with_piece out body) fs
  plain_with legs out fs body false = unwound_with legs out fs

  template_with : (legs : ℕ) (out : List (List ℕ)) (fs : List Frame) (n : ℕ) (w : List ℕ) (read : Result Elements ℕ) → IsWith legs (Went (template_leg r log legs out fs n w read))
  template_with legs out fs n w (Ok t) = goes_with legs out (record { url = w; tree = t; level = n; at = zero; end = length (code_of t); handlers = [] } ∷ fs)
  template_with legs out fs n w (Err place) = unwound_with legs out fs

  answered_with : (legs : ℕ) (out : List (List ℕ)) (fs : List Frame) (n : ℕ) (w : List ℕ) (reply : Reply) (b : Bool)
      → IsWith legs (Went (if b then template_leg r log legs out fs n w (tree_of (body_of reply)) else plain_leg r log legs out fs reply))
  answered_with legs out fs n w reply true = template_with legs out fs n w (tree_of (body_of reply))
  answered_with legs out fs n w reply false = plain_with legs out fs (body_of reply) (succeeded reply)

  asking_with : (legs : ℕ) (out : List (List ℕ)) (fs : List Frame) (n : ℕ) (w : List ℕ) (o : Option Answered) → IsWith legs (asking_leg r log legs out fs n w o)
  asking_with legs out fs n w None m e = absurd (cc)
  asking_with legs out fs n w (Some a) m e = answered_with legs out fs n w a.reply (processed_as_fragment a.reply) m e

  named_with : (legs : ℕ) (out : List (List ℕ)) (f : Frame) (fs : List Frame) (n : ℕ) (w : List ℕ) (o : Option Inline) → IsWith legs (named_leg r log legs out f fs n w o)
  named_with legs out f fs n w (Some p) m e = goes_with legs out (record { url = f.url; tree = f.tree; level = n; at = p.first; end = p.end; handlers = [] } ∷ f ∷ fs) m e
  named_with legs out f fs n w None m e = asking_with legs out (f ∷ fs) n w (answer_of log w) m e

  resolved_with : (legs : ℕ) (out : List (List ℕ)) (f : Frame) (fs : List Frame) (n : ℕ) (o : Option (List ℕ)) → IsWith legs (resolved_leg r log legs out f fs n o)
  resolved_with legs out f fs n None m e = unwound_with legs out (f ∷ fs) m e
  resolved_with legs out f fs n (Some w) m e = named_with legs out f fs n w (entry_for f.url w f.tree) m e

  leg_with : (legs : ℕ) (out : List (List ℕ)) (f : Frame) (fs : List Frame) (s : List Part) (n : ℕ) → IsWith legs (leg_at r log legs out f fs s n)
  leg_with legs out f fs s zero m e = unwound_with legs out (f ∷ fs) m e
  leg_with legs out f fs s (suc n) m e = resolved_with legs out f fs n (resolve f.url (substituted r s)) m e

  -- what a step leaves: a machine that is ready, and less to do
  abbrev Leaves : ℕ → ℕ → Machine → Type 0
  Leaves legs work n = Falls legs work n × Ready n.failed n.frames

  leaves_as : (legs work : ℕ) (x n : Machine) → Leaves legs work x → Went x ≡ Went n → Leaves legs work n
  leaves_as legs work x n h e = let same : x ≡ n = cc in subst (λ (m : Machine). Leaves legs work m) same h

  goes_leaves : (legs work : ℕ) (out : List (List ℕ)) (fs : List Frame) → weight fs < work → (n : Machine) → Went (goes legs out fs) ≡ Went n → Leaves legs work n
  goes_leaves legs work out fs h n e = leaves_as legs work (goes legs out fs) n (inl (refl, omega (arith, h, weight_settled fs)), settled_ready fs) e

  unwound_leaves : (legs work : ℕ) (out : List (List ℕ)) (fs : List Frame) → weight fs < work → (n : Machine) → Went (unwound legs out fs) ≡ Went n → Leaves legs work n
  unwound_leaves legs work out fs h n e =
      leaves_as legs work (unwound legs out fs) n (inl (unwound_legs legs out fs, omega (arith, h, weight_unwound legs out fs)), unwound_ready legs out fs) e

  leg_leaves : (legs work : ℕ) (out : List (List ℕ)) (f : Frame) (fs : List Frame) (s : List Part) (b : Bool) → nat_lt legs most_legs ≡ b → (n : Machine)
      → (if b then leg_at r log (legs + 1) out f fs s f.level else TooMany) ≡ Went n → Leaves legs work n
  leg_leaves legs work out f fs s true is n e =
      let w = leg_with (legs + 1) out f fs s f.level n e in
      let room : legs < most_legs = ltb-true legs most_legs is in
      (inr (w.0, omega (arith, w.0, room)), w.1)
  leg_leaves legs work out f fs s false is n e = absurd (cc)

  -- the frame f stands behind its step
  doing_leaves : (legs work : ℕ) (out : List (List ℕ)) (f : Frame) (fs : List Frame) → weight (f ∷ fs) < work → (s : Step) (n : Machine) → doing r log legs out f fs s ≡ Went n → Leaves legs work n
  doing_leaves legs work out f fs h (Text text) n e = goes_leaves legs work (with_piece out text) (f ∷ fs) h n e
  doing_leaves legs work out f fs h (Values parts) n e = goes_leaves legs work (with_pieces out (value_pieces r [] parts)) (f ∷ fs) h n e
  doing_leaves legs work out f fs h (Test test skip) n e =
      let k : ℕ = if holds r test then zero else skip in
      goes_leaves legs work out (moved f (f.at + k) ∷ fs) (omega (arith, h)) n e
  doing_leaves legs work out f fs h (Jump skip) n e = goes_leaves legs work out (moved f (f.at + skip) ∷ fs) (omega (arith, h)) n e
  doing_leaves legs work out f fs h (Try skip) n e = goes_leaves legs work out (handled f f.at (record { to = f.at + skip; mark = length out } ∷ f.handlers) ∷ fs) h n e
  doing_leaves legs work out f fs h (EndTry skip) n e = goes_leaves legs work out (handled f (f.at + skip) (without_first f.handlers) ∷ fs) (omega (arith, h)) n e
  doing_leaves legs work out f fs h (Leg s) n e = leg_leaves legs work out f fs s (nat_lt legs most_legs) refl n e

  here_leaves : (legs : ℕ) (out : List (List ℕ)) (f : Frame) (fs : List Frame) → f.at < f.end → (o : Option Step) (n : Machine) → step_here r log legs out f fs o ≡ Went n → Leaves legs (weight (f ∷ fs)) n
  here_leaves legs out f fs within None n e = absurd (cc)
  here_leaves legs out f fs within (Some s) n e = doing_leaves legs (weight (f ∷ fs)) out (moved f (f.at + 1)) fs (omega (arith, within)) s n e

  in_leaves : (legs : ℕ) (out : List (List ℕ)) (failed : Bool) (fs : List Frame) → Ready failed fs → (n : Machine) → step_in r log legs out fs ≡ Went n → Leaves legs (weight fs) n
  in_leaves legs out failed [] ready n e = absurd (cc)
  in_leaves legs out failed (f ∷ fs) ready n e = here_leaves legs out f fs ready.1 (slice_get (code_of f.tree) f.at) n e

  pub step_leaves : (m n : Machine) → Ready m.failed m.frames → step r log m ≡ Went n → Leaves m.legs (weight m.frames) n
  unfolding step
  step_leaves m n ready e = in_leaves m.legs m.out m.failed m.frames ready n e
