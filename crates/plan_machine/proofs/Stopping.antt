-- Each machine stops.
use Rattle.std.proofs.Common.{◌≡◌, ◌⊎◌, inl, inr, ℕ, zero, suc, ◌+◌, ◌<◌, ◌≤◌, Bool, true, false, nat_lt, List, [], ◌∷◌, length, slice_get, get_or, Option, Some, None, if◌then◌else◌, refl, ◌∙◌, ap, arith}
use Rattle.std.proofs.lemmas.Option.{slice_get_cases}
use Rattle.edge_types.specs.declared.request.Request.{Request}
use Rattle.edge_types.specs.Answered.{Answered}
use Rattle.edge_types.specs.Asked.{resolve}
use Rattle.edge_types.specs.Table.{answer_of}
use Rattle.esi_vars.specs.declared.part.Part.{Part}
use Rattle.esi_vars.specs.Values.{substituted}
use Rattle.esi_meaning.specs.Meaning.{most_legs}
use Rattle.plan_compiler.specs.Plan.{Step, Text, Values, Test, Jump, Try, EndTry, Leg}
use Rattle.plan_compiler.specs.Code.{code_of}
use Rattle.plan_compiler.specs.declared.inline.Inline.{Inline}
use Rattle.plan_compiler.specs.Urls.{entry_for}
use Rattle.plan_machine.specs.Machine.{Frame, Machine, Next, Went, Waits, TooMany, Rests, moved, asking_leg, named_leg, resolved_leg, leg_at, doing, step_here, step_in, step, gone, stepped, after}
use Rattle.plan_machine.specs.Progress.{weight, Ready, Falls}
use Rattle.plan_machine.proofs.Progress.{step_leaves}
use Rattle.plan_machine.proofs.Stacks.{Fits, WellMachine}

module _ (r : Request) (log : List Answered) where
  -- where it stops
  pub record Stops (m : Machine) : Type 0 where
    pub count : ℕ
    pub last : Machine
    pub there : after r log count m ≡ Some last
    pub stands : gone (step r log last) ≡ None

  after_first : (m n : Machine) → gone (step r log m) ≡ Some n → (k : ℕ) → after r log (suc k) m ≡ after r log k n
  unfolding after
  after_first m n e zero = e
  after_first m n e (suc k) = ap (stepped r log) (after_first m n e k)

  onward : (m n : Machine) → gone (step r log m) ≡ Some n → Stops n → Stops m
  onward m n e s = record { count = suc s.count; last = s.last; there = after_first m n e s.count ∙ s.there; stands = s.stands }

  here : (m : Machine) → gone (step r log m) ≡ None → Stops m
  unfolding after
  here m e = record { count = zero; last = m; there = refl; stands = e }

  -- so many legs more may be tried
  abbrev Able : ℕ → Type 0
  Able legs = (m : Machine) → Ready m.failed m.frames → most_legs ≤ m.legs + legs → Stops m

  abbrev Fewer : ℕ → Type 0
  Fewer zero = Unit {0}
  Fewer (suc legs) = Able legs

  by_fall : (legs : ℕ) → Fewer legs → (m n : Machine) → gone (step r log m) ≡ Some n → most_legs ≤ m.legs + legs → ((n.legs ≡ m.legs) → weight n.frames < weight m.frames → Stops n) → Ready n.failed n.frames
      → Falls m.legs (weight m.frames) n → Stops m
  by_fall legs fewer m n e le less ready (inl (same, lighter)) = onward m n e (less same lighter)
  by_fall zero fewer m n e le less ready (inr (more, few)) = absurd (omega (arith, le, more, few))
  by_fall (suc legs) fewer m n e le less ready (inr (more, few)) = onward m n e (fewer n ready (omega (arith, le, more)))

  by_step : (legs : ℕ) → Fewer legs → (m : Machine) → Ready m.failed m.frames → most_legs ≤ m.legs + legs
      → ((n : Machine) → Ready n.failed n.frames → (n.legs ≡ m.legs) → weight n.frames < weight m.frames → Stops n) → (a : Next) → step r log m ≡ a → Stops m
  by_step legs fewer m ready le less (Went n) e =
      let left = step_leaves r log m n ready e in
      by_fall legs fewer m n (ap gone e) le (less n left.1) left.1 left.0
  by_step legs fewer m ready le less (Waits level w) e = here m (ap gone e)
  by_step legs fewer m ready le less TooMany e = here m (ap gone e)
  by_step legs fewer m ready le less Rests e = here m (ap gone e)

  by_work : (legs : ℕ) → Fewer legs → (work : ℕ) (m : Machine) → Ready m.failed m.frames → most_legs ≤ m.legs + legs → weight m.frames ≤ work → Stops m
  by_work legs fewer zero m ready le heavy = by_step legs fewer m ready le (λ n again same lighter. absurd (omega (arith, heavy, lighter))) (step r log m) refl
  by_work legs fewer (suc work) m ready le heavy =
      by_step legs fewer m ready le (λ n again same lighter. by_work legs fewer work n again (omega (arith, le, same)) (omega (arith, heavy, lighter))) (step r log m) refl

  able : (legs : ℕ) → Able legs
  able zero = λ m ready le. by_work zero tt (weight m.frames) m ready le (omega arith)
  able (suc legs) = λ m ready le. by_work (suc legs) (able legs) (weight m.frames) m ready le (omega arith)

  pub stops : (m : Machine) → Ready m.failed m.frames → Stops m
  stops m ready = able most_legs m ready (omega arith)

  -- A machine with frames doesn't rest.
  asking_rests : (legs : ℕ) (out : List (List ℕ)) (fs : List Frame) (n : ℕ) (w : List ℕ) (o : Option Answered) → asking_leg r log legs out fs n w o ≡ Rests → ⊥
  asking_rests legs out fs n w None e = absurd (cc)
  asking_rests legs out fs n w (Some a) e = absurd (cc)

  named_rests : (legs : ℕ) (out : List (List ℕ)) (f : Frame) (fs : List Frame) (n : ℕ) (w : List ℕ) (o : Option Inline) → named_leg r log legs out f fs n w o ≡ Rests → ⊥
  named_rests legs out f fs n w None e = asking_rests legs out (f ∷ fs) n w (answer_of log w) e
  named_rests legs out f fs n w (Some i) e = absurd (cc)

  resolved_rests : (legs : ℕ) (out : List (List ℕ)) (f : Frame) (fs : List Frame) (n : ℕ) (o : Option (List ℕ)) → resolved_leg r log legs out f fs n o ≡ Rests → ⊥
  resolved_rests legs out f fs n None e = absurd (cc)
  resolved_rests legs out f fs n (Some w) e = named_rests legs out f fs n w (entry_for f.url w f.tree) e

  leg_rests : (legs : ℕ) (out : List (List ℕ)) (f : Frame) (fs : List Frame) (s : List Part) (n : ℕ) → leg_at r log legs out f fs s n ≡ Rests → ⊥
  leg_rests legs out f fs s zero e = absurd (cc)
  leg_rests legs out f fs s (suc n) e = resolved_rests legs out f fs n (resolve f.url (substituted r s)) e

  leg_if_rests : (legs : ℕ) (out : List (List ℕ)) (f : Frame) (fs : List Frame) (s : List Part) (b : Bool) → (if b then leg_at r log (legs + 1) out f fs s f.level else TooMany) ≡ Rests → ⊥
  leg_if_rests legs out f fs s true e = leg_rests (legs + 1) out f fs s f.level e
  leg_if_rests legs out f fs s false e = absurd (cc)

  doing_rests : (legs : ℕ) (out : List (List ℕ)) (f : Frame) (fs : List Frame) (s : Step) → doing r log legs out f fs s ≡ Rests → ⊥
  doing_rests legs out f fs (Text text) e = absurd (cc)
  doing_rests legs out f fs (Values parts) e = absurd (cc)
  doing_rests legs out f fs (Test test skip) e = absurd (cc)
  doing_rests legs out f fs (Jump skip) e = absurd (cc)
  doing_rests legs out f fs (Try skip) e = absurd (cc)
  doing_rests legs out f fs (EndTry skip) e = absurd (cc)
  doing_rests legs out f fs (Leg s) e = leg_if_rests legs out f fs s (nat_lt legs most_legs) e

  here_rests : (legs : ℕ) (out : List (List ℕ)) (f : Frame) (fs : List Frame) (o : Option Step) → step_here r log legs out f fs o ≡ Rests → o ≡ None
  here_rests legs out f fs None e = refl
  here_rests legs out f fs (Some s) e = absurd (doing_rests legs out (moved f (f.at + 1)) fs s e)

  past_if : (f : Frame) → slice_get (code_of f.tree) f.at ≡ None
      → ((s : Step) × (f.at < length (code_of f.tree)) × (slice_get (code_of f.tree) f.at ≡ Some s) × (get_or (code_of f.tree) f.at s ≡ s)) ⊎ ((length (code_of f.tree) ≤ f.at) × (slice_get (code_of f.tree) f.at ≡ None))
      → length (code_of f.tree) ≤ f.at
  past_if f e (inl (s, within, is, same)) = absurd (cc)
  past_if f e (inr (past, is)) = past

  in_rests : (legs : ℕ) (out : List (List ℕ)) (failed : Bool) (fs : List Frame) → Fits fs → Ready failed fs → step_in r log legs out fs ≡ Rests → fs ≡ []
  in_rests legs out failed [] fits ready e = refl
  in_rests legs out failed (f ∷ fs) fits ready e =
      let none : slice_get (code_of f.tree) f.at ≡ None = here_rests legs out f fs (slice_get (code_of f.tree) f.at) e in
      let past : length (code_of f.tree) ≤ f.at = past_if f none (slice_get_cases (code_of f.tree) f.at).1 in
      absurd (omega (arith, past, fits.0.0, ready.1))

  pub rests_whole : (m : Machine) → WellMachine m → step r log m ≡ Rests → m.frames ≡ []
  unfolding step
  rests_whole m w e = in_rests m.legs m.out m.failed m.frames w.stack.fits w.ready e
