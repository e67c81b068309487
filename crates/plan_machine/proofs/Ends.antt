-- Where the machine stops, the page waits or is done.
use Rattle.std.proofs.Common.{◌≡◌, ℕ, zero, suc, ◌+◌, ◌-◌, ◌<◌, ◌≤◌, Bool, true, false, nat_lt, lt-ltb, le-ltb, List, [], ◌∷◌, ◌++◌, length, take, drop, slice_get, find, Option, Some, None, Ok, is_none, if◌then◌else◌, refl, sym, ◌∙◌, ap, subst, arith, length-append}
use Rattle.std.specs.Option.{option_map}
use Rattle.std.proofs.lemmas.Bool.{ltb-false}
use borrow.Author.Tests.{ltb-true}
use Rattle.edge_types.specs.declared.head.Head.{Head}
use Rattle.edge_types.specs.declared.request.Request.{Request}
use Rattle.edge_types.specs.declared.answer.Reply.TheVariants.{Got}
use Rattle.edge_types.specs.declared.control.Control.{Control}
use Rattle.edge_types.specs.declared.outcome.PageFault.TheVariants.{TooManyLegs}
use Rattle.edge_types.specs.Answered.{Answered, processed}
use Rattle.edge_types.specs.Asked.{resolve}
use Rattle.edge_types.specs.Outcome.{Fault}
use Rattle.edge_types.specs.Pieces.{joined}
use Rattle.edge_types.specs.Table.{answer_of, reply_of}
use Rattle.esi_vars.specs.declared.part.Part.{Part}
use Rattle.esi_vars.specs.Values.{substituted}
use Rattle.esi_tree.specs.Tree.{Elements}
use Rattle.esi_tree.specs.Reading.{tree_of}
use Rattle.esi_meaning.specs.Inlines.{inline_for}
use Rattle.esi_meaning.specs.Meaning.{elements_run, reply_run, named_run, resolved_run, leg_run, page_run, most_legs, urls, text_outcome, run_outcome, outcome, asked}
use Rattle.esi_meaning.specs.Run.{Leg as RunLeg, Asks, AsksNobody, Run, gives, tries, followed}
use Rattle.esi_meaning.specs.State.{State, Waiting, Done, is_missing, lacks, state_from, state, waits_at}
use Rattle.plan_compiler.specs.Plan.{Step, Text, Values, Test, Jump, Try, EndTry, Leg}
use Rattle.plan_compiler.specs.Code.{code_of}
use Rattle.plan_compiler.specs.declared.inline.Inline.{Inline}
use Rattle.plan_compiler.specs.Urls.{entry_for}
use Rattle.plan_compiler.specs.Machine.{Handler as FlowHandler, resumed, act, flow}
use Rattle.plan_machine.specs.Machine.{Frame, Machine, Waits, TooMany, moved, asking_leg, named_leg, resolved_leg, leg_at, doing, step_here, step_in, step, after, start}
use Rattle.plan_machine.specs.Progress.{Ready}
use Rattle.plan_machine.specs.Rests.{flow_handlers, steps_left, resume, rests, text_so_far, still_to_come}
use Rattle.plan_compiler.specs.Bodies.{IsSingle}
use Rattle.plan_compiler.proofs.Single.{templates_are_single}
use Rattle.plan_machine.proofs.Entries.{entry_means}
use Rattle.plan_machine.proofs.Flows.{run_of}
use Rattle.plan_machine.proofs.Stacks.{Fits, WellMachine}
use Rattle.plan_machine.proofs.Keeps.{AreLogged, whole_of, top_is}
use Rattle.plan_machine.proofs.Stands.{Stands, page_stands}

-- what is still to come begins with a leg at this level that asks this URL, which isn't logged; it is none too many
pub record AsksNext (r : Request) (log : List Answered) (legs : ℕ) (whole : Run) (n : ℕ) (w : List ℕ) : Type 0 where
  pub rest : Run
  pub first : whole ≡ run_of (Asks n w ∷ rest.legs) rest.text
  pub missing : is_missing log w ≡ true
  pub room : legs < most_legs

-- what is still to come begins with a leg that is one too many
pub record OneTooMany (legs : ℕ) (whole : Run) : Type 0 where
  pub leg : RunLeg
  pub rest : Run
  pub first : whole ≡ run_of (leg ∷ rest.legs) rest.text
  pub full : most_legs ≤ legs

record TriesSome (run : Run) : Type 0 where
  leg : RunLeg
  rest : Run
  is : run ≡ tries leg rest

module _ (r : Request) (log : List Answered) where
  named_some : (below : List ℕ → Elements → List Part → Run) (n : ℕ) (u : List ℕ) (t : Elements) (w : List ℕ) (i : Option Elements) → TriesSome (named_run r below log n u t w i)
  named_some below n u t w (Some content) = record { leg = AsksNobody; rest = elements_run r (below u t) content; is = refl }
  named_some below n u t w None = record { leg = Asks n w; rest = reply_run r below w (reply_of log w); is = refl }

  resolved_some : (below : List ℕ → Elements → List Part → Run) (n : ℕ) (u : List ℕ) (t : Elements) (o : Option (List ℕ)) → TriesSome (resolved_run r below log n u t o)
  resolved_some below n u t None = record { leg = AsksNobody; rest = gives None; is = refl }
  resolved_some below n u t (Some w) = named_some below n u t w (inline_for u w t)

  leg_some : (n : ℕ) (u : List ℕ) (t : Elements) (s : List Part) → TriesSome (leg_run r log n u t s)
  leg_some zero u t s = record { leg = AsksNobody; rest = gives None; is = refl }
  leg_some (suc n) u t s = resolved_some (leg_run r log n) (suc n) u t (resolve u (substituted r s))

  module _ (legs : ℕ) (out : List (List ℕ)) (f : Frame) (fs : List Frame) (single : IsSingle f.tree) where
    abbrev legged : Run → Run
    legged leg =
        followed
        (followed leg (resumed (λ (k : ℕ) (cs : List FlowHandler) (o : List ℕ). flow r (leg_run r log f.level f.url f.tree) k (steps_left f) cs o) (flow_handlers f.at out f.handlers) (joined out)))
        (resume r (rests r log out fs))

    asking_waits : (room : legs < most_legs) (n : ℕ) (w : List ℕ) (o : Option Answered) → answer_of log w ≡ o → (m : ℕ) (v : List ℕ) → asking_leg r log (legs + 1) out (f ∷ fs) n w o ≡ Waits m v
        → AsksNext r log legs (legged (tries (Asks (suc n) w) (reply_run r (leg_run r log n) w (reply_of log w)))) m v
    asking_waits room n w None is m v e =
        let level : suc n ≡ m = cc in
        let url : w ≡ v = cc in
        let missing : is_missing log w ≡ true = ap is_none is in
        let run : Run = reply_run r (leg_run r log n) w (reply_of log w) in
        record {
          rest = legged run;
          first = ap (λ (j : ℕ). run_of (Asks j w ∷ (legged run).legs) (legged run).text) level ∙ ap (λ (x : List ℕ). run_of (Asks m x ∷ (legged run).legs) (legged run).text) url;
          missing = subst (λ (x : List ℕ). is_missing log x ≡ true) url missing;
          room = room;
        }
    asking_waits room n w (Some a) is m v e = absurd (cc)

    named_waits : (room : legs < most_legs) (n : ℕ) (w : List ℕ) (i : Option Elements) (o : Option Inline)
        → option_map (λ (c : Elements). elements_run r (leg_run r log n f.url f.tree) c) i
        ≡ option_map (λ (p : Inline). flow r (leg_run r log n f.url f.tree) zero (drop p.first (take p.end (code_of f.tree))) [] []) o
        → (m : ℕ) (v : List ℕ) → named_leg r log (legs + 1) out f fs n w o ≡ Waits m v → AsksNext r log legs (legged (named_run r (leg_run r log n) log (suc n) f.url f.tree w i)) m v
    named_waits room n w None None same m v e = asking_waits room n w (answer_of log w) refl m v e
    named_waits room n w (Some c) None same m v e = absurd (cc)
    named_waits room n w i (Some p) same m v e = absurd (cc)

    resolved_waits : (room : legs < most_legs) (n : ℕ) (o : Option (List ℕ)) (m : ℕ) (v : List ℕ) → resolved_leg r log (legs + 1) out f fs n o ≡ Waits m v
        → AsksNext r log legs (legged (resolved_run r (leg_run r log n) log (suc n) f.url f.tree o)) m v
    resolved_waits room n None m v e = absurd (cc)
    resolved_waits room n (Some w) m v e =
        named_waits room n w (inline_for f.url w f.tree) (entry_for f.url w f.tree) (entry_means r (leg_run r log n f.url f.tree) f.url w f.tree single) m v e

    leg_waits : (room : legs < most_legs) (s : List Part) (n m : ℕ) (v : List ℕ) → leg_at r log (legs + 1) out f fs s n ≡ Waits m v → AsksNext r log legs (legged (leg_run r log n f.url f.tree s)) m v
    leg_waits room s zero m v e = absurd (cc)
    leg_waits room s (suc n) m v e = resolved_waits room n (resolve f.url (substituted r s)) m v e

    leg_if_waits : (s : List Part) (b : Bool) → nat_lt legs most_legs ≡ b → (m : ℕ) (v : List ℕ) → (if b then leg_at r log (legs + 1) out f fs s f.level else TooMany) ≡ Waits m v
        → AsksNext r log legs (legged (leg_run r log f.level f.url f.tree s)) m v
    leg_if_waits s true is m v e = leg_waits (ltb-true legs most_legs is) s f.level m v e
    leg_if_waits s false is m v e = absurd (cc)

    abbrev done_by : Step → Run
    done_by s =
        followed (act r (leg_run r log f.level f.url f.tree) s (λ (k : ℕ) (cs : List FlowHandler) (o : List ℕ). flow r (leg_run r log f.level f.url f.tree) k (steps_left f) cs o) (flow_handlers f.at out f.handlers) (joined out))
        (resume r (rests r log out fs))

    doing_waits : (s : Step) (m : ℕ) (v : List ℕ) → doing r log legs out f fs s ≡ Waits m v → AsksNext r log legs (done_by s) m v
    doing_waits (Text text) m v e = absurd (cc)
    doing_waits (Values parts) m v e = absurd (cc)
    doing_waits (Test test skip) m v e = absurd (cc)
    doing_waits (Jump skip) m v e = absurd (cc)
    doing_waits (Try skip) m v e = absurd (cc)
    doing_waits (EndTry skip) m v e = absurd (cc)
    doing_waits (Leg s) m v e = leg_if_waits s (nat_lt legs most_legs) refl m v e

    too_many : (leg : Run) → TriesSome leg → most_legs ≤ legs → OneTooMany legs (legged leg)
    too_many leg some full = record { leg = some.leg; rest = legged some.rest; first = ap legged some.is; full = full }

    asking_goes : (n : ℕ) (w : List ℕ) (o : Option Answered) → asking_leg r log (legs + 1) out (f ∷ fs) n w o ≡ TooMany → ⊥
    asking_goes n w None e = absurd (cc)
    asking_goes n w (Some a) e = absurd (cc)

    named_goes : (n : ℕ) (w : List ℕ) (o : Option Inline) → named_leg r log (legs + 1) out f fs n w o ≡ TooMany → ⊥
    named_goes n w None e = asking_goes n w (answer_of log w) e
    named_goes n w (Some p) e = absurd (cc)

    resolved_goes : (n : ℕ) (o : Option (List ℕ)) → resolved_leg r log (legs + 1) out f fs n o ≡ TooMany → ⊥
    resolved_goes n None e = absurd (cc)
    resolved_goes n (Some w) e = named_goes n w (entry_for f.url w f.tree) e

    leg_goes : (s : List Part) (n : ℕ) → leg_at r log (legs + 1) out f fs s n ≡ TooMany → ⊥
    leg_goes s zero e = absurd (cc)
    leg_goes s (suc n) e = resolved_goes n (resolve f.url (substituted r s)) e

    leg_if_many : (s : List Part) (b : Bool) → nat_lt legs most_legs ≡ b → (if b then leg_at r log (legs + 1) out f fs s f.level else TooMany) ≡ TooMany → OneTooMany legs (legged (leg_run r log f.level f.url f.tree s))
    leg_if_many s true is e = absurd (leg_goes s f.level e)
    leg_if_many s false is e = too_many (leg_run r log f.level f.url f.tree s) (leg_some f.level f.url f.tree s) (ltb-false legs most_legs is)

    doing_many : (s : Step) → doing r log legs out f fs s ≡ TooMany → OneTooMany legs (done_by s)
    doing_many (Text text) e = absurd (cc)
    doing_many (Values parts) e = absurd (cc)
    doing_many (Test test skip) e = absurd (cc)
    doing_many (Jump skip) e = absurd (cc)
    doing_many (Try skip) e = absurd (cc)
    doing_many (EndTry skip) e = absurd (cc)
    doing_many (Leg s) e = leg_if_many s (nat_lt legs most_legs) refl e

  here_waits : (legs : ℕ) (out : List (List ℕ)) (f : Frame) (fs : List Frame) → IsSingle f.tree → f.at < f.end → (o : Option Step) → slice_get (code_of f.tree) f.at ≡ o → (n : ℕ) (w : List ℕ)
      → step_here r log legs out f fs o ≡ Waits n w → AsksNext r log legs (whole_of r log out (f ∷ fs)) n w
  here_waits legs out f fs single within None is n w e = absurd (cc)
  here_waits legs out f fs single within (Some s) is n w e =
      subst (λ (whole : Run). AsksNext r log legs whole n w) (sym (top_is r log out f fs s is within)) (doing_waits legs out (moved f (f.at + 1)) fs single s n w e)

  here_many : (legs : ℕ) (out : List (List ℕ)) (f : Frame) (fs : List Frame) → IsSingle f.tree → f.at < f.end → (o : Option Step) → slice_get (code_of f.tree) f.at ≡ o
      → step_here r log legs out f fs o ≡ TooMany → OneTooMany legs (whole_of r log out (f ∷ fs))
  here_many legs out f fs single within None is e = absurd (cc)
  here_many legs out f fs single within (Some s) is e =
      subst (λ (whole : Run). OneTooMany legs whole) (sym (top_is r log out f fs s is within)) (doing_many legs out (moved f (f.at + 1)) fs single s e)

  in_waits : (legs : ℕ) (out : List (List ℕ)) (failed : Bool) (fs : List Frame) → Fits fs → Ready failed fs → (n : ℕ) (w : List ℕ) → step_in r log legs out fs ≡ Waits n w
      → AsksNext r log legs (resume r (rests r log out fs) (text_so_far failed out)) n w
  in_waits legs out failed [] fits ready n w e = absurd (cc)
  in_waits legs out failed (f ∷ fs) fits ready n w e =
      subst (λ (b : Bool). AsksNext r log legs (resume r (rests r log out (f ∷ fs)) (text_so_far b out)) n w) (sym ready.0) (here_waits legs out f fs fits.0.1 ready.1 (slice_get (code_of f.tree) f.at) refl n w e)

  in_many : (legs : ℕ) (out : List (List ℕ)) (failed : Bool) (fs : List Frame) → Fits fs → Ready failed fs → step_in r log legs out fs ≡ TooMany
      → OneTooMany legs (resume r (rests r log out fs) (text_so_far failed out))
  in_many legs out failed [] fits ready e = absurd (cc)
  in_many legs out failed (f ∷ fs) fits ready e =
      subst (λ (b : Bool). OneTooMany legs (resume r (rests r log out (f ∷ fs)) (text_so_far b out))) (sym ready.0) (here_many legs out f fs fits.0.1 ready.1 (slice_get (code_of f.tree) f.at) refl e)

  pub step_waits : (m : Machine) → WellMachine m → (n : ℕ) (w : List ℕ) → step r log m ≡ Waits n w → AsksNext r log m.legs (still_to_come r log m) n w
  unfolding step still_to_come
  step_waits m well n w e = in_waits m.legs m.out m.failed m.frames well.stack.fits well.ready n w e

  pub step_too_many : (m : Machine) → WellMachine m → step r log m ≡ TooMany → OneTooMany m.legs (still_to_come r log m)
  unfolding step still_to_come
  step_too_many m well e = in_many m.legs m.out m.failed m.frames well.stack.fits well.ready e

-- legs that are logged have no missing URL
found_behind : (log : List Answered) (m : ℕ) (done more : List RunLeg) → AreLogged log done → (k : ℕ) → m ≡ length done + k
    → find (is_missing log) (urls (take m (done ++ more))) ≡ find (is_missing log) (urls (take k more))
found_behind log m [] more all k e = ap (λ (j : ℕ). find (is_missing log) (urls (take j more))) (omega (arith, e))
found_behind log zero (l ∷ ls) more all k e = absurd (omega (arith, e))
found_behind log (suc m) (AsksNobody ∷ ls) more all k e = found_behind log m ls more all.1 k (omega (arith, e))
found_behind log (suc m) (Asks n w ∷ ls) more all k e = rw all.0 (found_behind log m ls more all.1 k (omega (arith, e)))

lacks_behind : (log : List Answered) (m : ℕ) (done more : List RunLeg) → AreLogged log done → (k : ℕ) → m ≡ length done + k → find (lacks log) (take m (done ++ more)) ≡ find (lacks log) (take k more)
lacks_behind log m [] more all k e = ap (λ (j : ℕ). find (lacks log) (take j more)) (omega (arith, e))
lacks_behind log zero (l ∷ ls) more all k e = absurd (omega (arith, e))
lacks_behind log (suc m) (l ∷ ls) more all k e = rw all.0 (lacks_behind log m ls more all.1 k (omega (arith, e)))

-- the state of a page whose legs and text are these
module _ (r : Request) (log : List Answered) (L : ℕ) (u : List ℕ) (t : Elements) (head : Head) (control : Control) (body : List ℕ)
    (logged : is_missing log u ≡ false) (reply : reply_of log u ≡ Got head control body) (is_template : processed (Got head control body) ≡ true) (read : tree_of body ≡ Ok t) where
  abbrev state_of_run : Run → State
  state_of_run run = state_from (find (is_missing log) (urls (take most_legs run.legs))) (run_outcome most_legs head run)

  state_is_run : state r log L u ≡ state_of_run (page_run r log L u t)
  unfolding state outcome asked
  state_is_run = rw (logged, reply, is_template, read) refl

  waits_at_is : waits_at r log L u ≡ find (lacks log) (take most_legs (page_run r log L u t).legs)
  unfolding waits_at
  waits_at_is = rw (reply, is_template, read) refl

  -- the machine waits
  waits_run : (run : Run) (m : Machine) → Stands r log run m → (n : ℕ) (w : List ℕ) → AsksNext r log m.legs (still_to_come r log m) n w
      → (state_of_run run ≡ Waiting w) × (find (lacks log) (take most_legs run.legs) ≡ Some (Asks n w))
  waits_run run m s n w a =
      let k : ℕ = most_legs - suc (length s.done) in
      let room : most_legs ≡ length s.done + suc k = omega (arith, a.room, s.count) in
      let legs : run.legs ≡ s.done ++ Asks n w ∷ a.rest.legs = ap (λ (x : Run). x.legs) s.same ∙ ap (λ (x : Run). s.done ++ x.legs) a.first in
      let found : find (is_missing log) (urls (take most_legs run.legs)) ≡ Some w =
      ap (λ (ls : List RunLeg). find (is_missing log) (urls (take most_legs ls))) legs ∙ found_behind log most_legs s.done (Asks n w ∷ a.rest.legs) s.logged (suc k) room ∙ rw a.missing refl in
      let leg : find (lacks log) (take most_legs run.legs) ≡ Some (Asks n w) =
      ap (λ (ls : List RunLeg). find (lacks log) (take most_legs ls)) legs ∙ lacks_behind log most_legs s.done (Asks n w ∷ a.rest.legs) s.logged (suc k) room ∙ rw a.missing refl in
      (rw found refl, leg)

  pub machine_waits : (k : ℕ) (m : Machine) → after r log k (start L u t) ≡ Some m → (n : ℕ) (w : List ℕ) → step r log m ≡ Waits n w → (state r log L u ≡ Waiting w) × (waits_at r log L u ≡ Some (Asks n w))
  machine_waits k m e n w is =
      let s = page_stands r log L u t (templates_are_single body t read) k m e in
      let both = waits_run (page_run r log L u t) m s n w (step_waits r log m s.well n w is) in
      (state_is_run ∙ both.0, waits_at_is ∙ both.1)

  -- too many legs
  many_run : (run : Run) (m : Machine) → Stands r log run m → OneTooMany m.legs (still_to_come r log m) → state_of_run run ≡ Done (Fault TooManyLegs)
  many_run run m s a =
      let exact : most_legs ≡ length s.done + 0 = omega (arith, a.full, s.count, s.few) in
      let legs : run.legs ≡ s.done ++ a.leg ∷ a.rest.legs = ap (λ (x : Run). x.legs) s.same ∙ ap (λ (x : Run). s.done ++ x.legs) a.first in
      let none : find (is_missing log) (urls (take most_legs run.legs)) ≡ None =
      ap (λ (ls : List RunLeg). find (is_missing log) (urls (take most_legs ls))) legs ∙ found_behind log most_legs s.done (a.leg ∷ a.rest.legs) s.logged 0 exact in
      let long : most_legs < length run.legs = omega (arith, exact, ap length legs, length-append s.done (a.leg ∷ a.rest.legs)) in
      let many : nat_lt most_legs (length run.legs) ≡ true = lt-ltb most_legs (length run.legs) long in
      rw (none, many) refl

  pub machine_too_many : (k : ℕ) (m : Machine) → after r log k (start L u t) ≡ Some m → step r log m ≡ TooMany → state r log L u ≡ Done (Fault TooManyLegs)
  machine_too_many k m e is =
      let s = page_stands r log L u t (templates_are_single body t read) k m e in
      state_is_run ∙ many_run (page_run r log L u t) m s (step_too_many r log m s.well is)

  -- the text is whole, or the page failed
  rests_run : (run : Run) (m : Machine) → Stands r log run m → m.frames ≡ [] → state_of_run run ≡ Done (text_outcome head (text_so_far m.failed m.out))
  unfolding still_to_come
  rests_run run m s none =
      let text : Option (List ℕ) = text_so_far m.failed m.out in
      let come : still_to_come r log m ≡ gives text = ap (λ (fs : List Frame). resume r (rests r log m.out fs) text) none in
      let run_is : run ≡ run_of (s.done ++ []) text = s.same ∙ ap (λ (x : Run). run_of (s.done ++ x.legs) x.text) come in
      let k : ℕ = most_legs - length s.done in
      let room : most_legs ≡ length s.done + k = omega (arith, s.few, s.count) in
      let nothing : find (is_missing log) (urls (take k [])) ≡ None = none_of k in
      let found : find (is_missing log) (urls (take most_legs (s.done ++ []))) ≡ None = found_behind log most_legs s.done [] s.logged k room ∙ nothing in
      let short : length (s.done ++ []) ≤ most_legs = omega (arith, room, length-append s.done []) in
      let few : nat_lt most_legs (length (s.done ++ [])) ≡ false = le-ltb most_legs (length (s.done ++ [])) short in
      ap state_of_run run_is ∙ rw (found, few) refl
    where
      none_of : (k : ℕ) → find (is_missing log) (urls (take k [])) ≡ None
      none_of zero = refl
      none_of (suc k) = refl

  pub machine_rests : (k : ℕ) (m : Machine) → after r log k (start L u t) ≡ Some m → m.frames ≡ [] → state r log L u ≡ Done (text_outcome head (text_so_far m.failed m.out))
  machine_rests k m e none =
      let s = page_stands r log L u t (templates_are_single body t read) k m e in
      state_is_run ∙ rests_run (page_run r log L u t) m s none
