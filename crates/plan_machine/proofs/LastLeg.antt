-- A page that fails does so at its last leg.
use Rattle.std.proofs.Common.{◌≡◌, ℕ, zero, suc, ◌+◌, Bool, true, false, nat_lt, List, [], ◌∷◌, ◌++◌, slice_get, Option, Some, None, if◌then◌else◌, refl, sym, ◌∙◌, ap}
use Rattle.std.proofs.lemmas.List.{append-nil}
use Rattle.edge_types.specs.declared.request.Request.{Request}
use Rattle.edge_types.specs.Answered.{Answered}
use Rattle.esi_tree.specs.Tree.{Elements}
use Rattle.esi_vars.specs.declared.part.Part.{Part}
use Rattle.esi_meaning.specs.Meaning.{page_run, most_legs}
use Rattle.esi_meaning.specs.Run.{Leg as RunLeg, Run}
use Rattle.plan_compiler.specs.Plan.{Step, Text, Values, Test, Jump, Try, EndTry, Leg}
use Rattle.plan_compiler.specs.Code.{code_of}
use Rattle.plan_machine.specs.Laws.{FailsAtTheLastLeg}
use Rattle.plan_machine.specs.LastLeg.{url_of, last_url_after, last_url, leg_as, tried_by, tried_here, tried_in}
use Rattle.plan_machine.specs.Machine.{Frame, Machine, Went, moved, step, step_in, step_here, doing, leg_at, TooMany}
use Rattle.plan_machine.specs.Progress.{Ready}
use Rattle.plan_machine.specs.Rests.{rests, resume, text_so_far, still_to_come}
use Rattle.plan_machine.proofs.Flows.{run_of}
use Rattle.plan_machine.proofs.Keeps.{Kept, step_kept}
use Rattle.plan_machine.proofs.Stands.{Stands, page_stands}

-- behind any legs
last_behind : (before : Option (List ℕ)) (legs : List RunLeg) (leg : RunLeg) → last_url_after before (legs ++ leg ∷ []) ≡ url_of leg
last_behind before [] leg = refl
last_behind before (first ∷ legs) leg = last_behind (url_of first) legs leg

-- one leg was tried
abbrev IsOne : List RunLeg → Type 0
IsOne legs = (leg : RunLeg) × (legs ≡ leg ∷ [])

module _ (r : Request) (log : List Answered) where
  -- only a leg fails a page
  doing_fails : (legs : ℕ) (out : List (List ℕ)) (f : Frame) (fs : List Frame) (s : Step) (m : Machine) → doing r log legs out f fs s ≡ Went m → m.failed ≡ true → IsOne (tried_by r f s)
  doing_fails legs out f fs (Text text) m e failed = absurd (cc)
  doing_fails legs out f fs (Values parts) m e failed = absurd (cc)
  doing_fails legs out f fs (Test test skip) m e failed = absurd (cc)
  doing_fails legs out f fs (Jump skip) m e failed = absurd (cc)
  doing_fails legs out f fs (Try skip) m e failed = absurd (cc)
  doing_fails legs out f fs (EndTry skip) m e failed = absurd (cc)
  doing_fails legs out f fs (Leg s) m e failed = (leg_as r f s f.level, refl)

  here_fails : (legs : ℕ) (out : List (List ℕ)) (f : Frame) (fs : List Frame) (o : Option Step) (m : Machine) → step_here r log legs out f fs o ≡ Went m → m.failed ≡ true → IsOne (tried_here r f o)
  here_fails legs out f fs None m e failed = absurd (cc)
  here_fails legs out f fs (Some s) m e failed = doing_fails legs out (moved f (f.at + 1)) fs s m e failed

  in_fails : (legs : ℕ) (out : List (List ℕ)) (fs : List Frame) (m : Machine) → step_in r log legs out fs ≡ Went m → m.failed ≡ true → IsOne (tried_in r fs)
  in_fails legs out [] m e failed = absurd (cc)
  in_fails legs out (f ∷ fs) m e failed = here_fails legs out f fs (slice_get (code_of f.tree) f.at) m e failed

  step_fails : (m n : Machine) → step r log m ≡ Went n → n.failed ≡ true → IsOne (tried_in r m.frames)
  unfolding step
  step_fails m n e failed = in_fails m.legs m.out m.frames n e failed

  -- nothing is still to come of a machine that failed
  nothing_left : (out : List (List ℕ)) (failed : Bool) (fs : List Frame) → Ready failed fs → failed ≡ true → (resume r (rests r log out fs) (text_so_far failed out)).legs ≡ []
  nothing_left out true [] ready is = refl
  nothing_left out false [] ready is = absurd (cc)
  nothing_left out failed (f ∷ fs) ready is = absurd (cc (ready.0, is))

  nothing_comes : (m : Machine) → Ready m.failed m.frames → m.failed ≡ true → (still_to_come r log m).legs ≡ []
  unfolding still_to_come
  nothing_comes m ready is = nothing_left m.out m.failed m.frames ready is

  fails_after : (run : Run) (m n : Machine) → Stands r log run m → Kept r log m.legs (tried_in r m.frames) (still_to_come r log m) n → n.failed ≡ true → IsOne (tried_in r m.frames)
      → last_url run.legs ≡ last_url (tried_in r m.frames)
  fails_after run m n s k failed one =
      let tried : List RunLeg = tried_in r m.frames in
      let left : (still_to_come r log m).legs ≡ tried ++ (still_to_come r log n).legs = ap (λ (x : Run). x.legs) k.same in
      let only : tried ++ (still_to_come r log n).legs ≡ tried = ap (λ (legs : List RunLeg). tried ++ legs) (nothing_comes n k.well.ready failed) ∙ append-nil tried in
      let all : run.legs ≡ s.done ++ one.0 ∷ [] = ap (λ (x : Run). x.legs) s.same ∙ ap (λ (legs : List RunLeg). s.done ++ legs) (left ∙ only ∙ one.1) in
      ap last_url all ∙ last_behind None s.done one.0 ∙ sym (ap last_url one.1)

pub fails_at_the_last_leg : FailsAtTheLastLeg
fails_at_the_last_leg r log L u t single k m n e is failed =
    let s = page_stands r log L u t single k m e in
    fails_after r log (page_run r log L u t) m n s (step_kept r log m n s.well is) failed (step_fails r log m n is failed)
