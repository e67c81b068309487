-- More answers don't disturb the steps that were made.
use Rattle.std.proofs.Common.{◌≡◌, ℕ, zero, suc, ◌+◌, Bool, true, false, cond, List, [], ◌∷◌, ◌++◌, nat_lt, slice_get, find, Option, Some, None, if◌then◌else◌, refl}
use Rattle.edge_types.specs.declared.request.Request.{Request}
use Rattle.edge_types.specs.Answered.{Answered}
use Rattle.edge_types.specs.Asked.{resolve}
use Rattle.edge_types.specs.Table.{is_of, answer_of}
use Rattle.esi_vars.specs.declared.part.Part.{Part}
use Rattle.esi_vars.specs.Values.{substituted}
use Rattle.esi_meaning.specs.Meaning.{most_legs}
use Rattle.plan_compiler.specs.Plan.{Step, Text, Values, Test, Jump, Try, EndTry, Leg}
use Rattle.plan_compiler.specs.Code.{code_of}
use Rattle.plan_compiler.specs.declared.inline.Inline.{Inline}
use Rattle.plan_compiler.specs.Urls.{entry_for}
use Rattle.plan_machine.specs.Laws.{StepsStay}
use Rattle.plan_machine.specs.Machine.{Frame, Machine, Next, Went, Waits, TooMany, Rests, asking_leg, named_leg, resolved_leg, leg_at, doing, step_here, step_in, step, gone, stepped, after}

found_step : (p : Answered → Bool) (x : Answered) (xs more : List Answered) (a : Answered) → (find p xs ≡ Some a → find p (xs ++ more) ≡ Some a) → (b : Bool)
    → cond b (Some x) (find p xs) ≡ Some a → cond b (Some x) (find p (xs ++ more)) ≡ Some a
found_step p x xs more a later true e = e
found_step p x xs more a later false e = later e

pub found_in_more : (p : Answered → Bool) (xs more : List Answered) (a : Answered) → find p xs ≡ Some a → find p (xs ++ more) ≡ Some a
found_in_more p [] more a e = absurd (cc)
found_in_more p (x ∷ xs) more a e = found_step p x xs more a (found_in_more p xs more a) (p x) e

module _ (r : Request) (log more : List Answered) where
  -- a step that went on goes on over more answers
  abbrev Stays : Next → Next → Type 0
  Stays a b = (m : Machine) → a ≡ Went m → b ≡ Went m

  asking_stays : (legs : ℕ) (out : List (List ℕ)) (fs : List Frame) (n : ℕ) (w : List ℕ) (o : Option Answered) → answer_of log w ≡ o
      → Stays (asking_leg r log legs out fs n w o) (asking_leg r (log ++ more) legs out fs n w (answer_of (log ++ more) w))
  asking_stays legs out fs n w None is m e = absurd (cc)
  asking_stays legs out fs n w (Some a) is m e = rw (found_in_more (is_of w) log more a is) e

  named_stays : (legs : ℕ) (out : List (List ℕ)) (f : Frame) (fs : List Frame) (n : ℕ) (w : List ℕ) (o : Option Inline) → Stays (named_leg r log legs out f fs n w o) (named_leg r (log ++ more) legs out f fs n w o)
  named_stays legs out f fs n w (Some p) m e = e
  named_stays legs out f fs n w None m e = asking_stays legs out (f ∷ fs) n w (answer_of log w) refl m e

  resolved_stays : (legs : ℕ) (out : List (List ℕ)) (f : Frame) (fs : List Frame) (n : ℕ) (o : Option (List ℕ)) → Stays (resolved_leg r log legs out f fs n o) (resolved_leg r (log ++ more) legs out f fs n o)
  resolved_stays legs out f fs n None m e = e
  resolved_stays legs out f fs n (Some w) m e = named_stays legs out f fs n w (entry_for f.url w f.tree) m e

  leg_stays : (legs : ℕ) (out : List (List ℕ)) (f : Frame) (fs : List Frame) (s : List Part) (n : ℕ) → Stays (leg_at r log legs out f fs s n) (leg_at r (log ++ more) legs out f fs s n)
  leg_stays legs out f fs s zero m e = e
  leg_stays legs out f fs s (suc n) m e = resolved_stays legs out f fs n (resolve f.url (substituted r s)) m e

  if_stays : (b : Bool) (x y : Next) → Stays x y → Stays (if b then x else TooMany) (if b then y else TooMany)
  if_stays true x y h m e = h m e
  if_stays false x y h m e = e

  doing_stays : (legs : ℕ) (out : List (List ℕ)) (f : Frame) (fs : List Frame) (s : Step) → Stays (doing r log legs out f fs s) (doing r (log ++ more) legs out f fs s)
  doing_stays legs out f fs (Text text) m e = e
  doing_stays legs out f fs (Values parts) m e = e
  doing_stays legs out f fs (Test test skip) m e = e
  doing_stays legs out f fs (Jump skip) m e = e
  doing_stays legs out f fs (Try skip) m e = e
  doing_stays legs out f fs (EndTry skip) m e = e
  doing_stays legs out f fs (Leg s) m e = if_stays (nat_lt legs most_legs) (leg_at r log (legs + 1) out f fs s f.level) (leg_at r (log ++ more) (legs + 1) out f fs s f.level) (leg_stays (legs + 1) out f fs s f.level) m e

  here_stays : (legs : ℕ) (out : List (List ℕ)) (f : Frame) (fs : List Frame) (o : Option Step) → Stays (step_here r log legs out f fs o) (step_here r (log ++ more) legs out f fs o)
  here_stays legs out f fs None m e = e
  here_stays legs out f fs (Some s) m e = doing_stays legs out (record f { at = f.at + 1 }) fs s m e

  in_stays : (legs : ℕ) (out : List (List ℕ)) (fs : List Frame) → Stays (step_in r log legs out fs) (step_in r (log ++ more) legs out fs)
  in_stays legs out [] m e = e
  in_stays legs out (f ∷ fs) m e = here_stays legs out f fs (slice_get (code_of f.tree) f.at) m e

  pub step_stays : (m n : Machine) → step r log m ≡ Went n → step r (log ++ more) m ≡ Went n
  unfolding step
  step_stays m n e = in_stays m.legs m.out m.frames n e

  gone_stays : (a b : Next) → Stays a b → (n : Machine) → gone a ≡ Some n → gone b ≡ Some n
  gone_stays (Went m) b h n e = rw (h m refl) e
  gone_stays (Waits level url) b h n e = absurd (cc)
  gone_stays TooMany b h n e = absurd (cc)
  gone_stays Rests b h n e = absurd (cc)

  more_steps : (o p : Option Machine) → ((n : Machine) → o ≡ Some n → p ≡ Some n) → (n : Machine) → stepped r log o ≡ Some n → stepped r (log ++ more) p ≡ Some n
  more_steps None p h n e = absurd (cc)
  more_steps (Some m) p h n e = rw (h m refl) (gone_stays (step r log m) (step r (log ++ more) m) (step_stays m) n e)

  pub after_stays : (k : ℕ) (m n : Machine) → after r log k m ≡ Some n → after r (log ++ more) k m ≡ Some n
  unfolding after
  after_stays zero m n e = e
  after_stays (suc k) m n e = more_steps (after r log k m) (after r (log ++ more) k m) (after_stays k m) n e

pub steps_stay : StepsStay
steps_stay r log more k m n e = after_stays r log more k m n e
