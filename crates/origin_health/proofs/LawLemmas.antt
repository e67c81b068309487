-- The laws of an origin's health, by induction on the history.
use Rattle.std.proofs.Common.{◌≡◌, inl, inr, ℕ, zero, suc, ◌+◌, ◌-◌, ◌^◌, ◌<◌, ◌≤◌, ◌⊎◌, min, Bool, true, false, not, [], ◌∷◌, ◌++◌, Option, Some, None, refl, sym, ◌∙◌, ap, subst, arith, nat_lt, nat_le, nat_eq, ◌&&◌, ◌||◌, if◌then◌else◌}
use Rattle.std.proofs.lemmas.Bool.{true≢false, and_parts}
use Rattle.std.proofs.lemmas.Bool.Decides.{nat_tests}
use Rattle.origin_health.specs.declared.health.Bounds.{Bounds}
use Rattle.origin_health.specs.declared.health.Permit.{Permit}
use Rattle.origin_health.specs.declared.health.Leave.{Leave}
use Rattle.origin_health.specs.declared.health.Leave.TheVariants.{Granted, TooMany, Rests}
use Rattle.origin_health.specs.declared.health.OriginHealth.{OriginHealth}
use Rattle.origin_health.specs.declared.standing.FetchEnd.{FetchEnd}
use Rattle.origin_health.specs.declared.standing.FetchEnd.TheVariants.{Reached, Unreachable, Other}
use Rattle.origin_health.specs.declared.standing.Standing.{Standing}
use Rattle.origin_health.specs.declared.standing.Standing.TheVariants as standing
use Rattle.origin_health.specs.Standing as spec
use Rattle.origin_health.specs.Health.{fresh, is_below, Asks, ended}
use Rattle.origin_health.specs.Law.{Event, Sought, Ended, History, Step, Run, in_flight, failures, is_tried, tried_at, rest_began, has_failed, is_resting, Follows, Keeps, AreBounds, HealthLaw, NeverMore, IsQuiet, BeginsRest, RestsWhole, TrialsGoOn, ReachEndsRest, UnboundedGrants}

-- ---- what a standing says of the failures, of the latest trial, and of when the latest rest began

abbrev pub Stands : ℕ → ℕ → Bool → ℕ → ℕ → Standing → Type 0
Stands rest f tried at began (standing.Asked n) = (tried ≡ false) × (((rest ≡ 0) × (n ≡ 0)) ⊎ ((0 < rest) × (n ≡ f) × (f < 5)))
Stands rest f tried at began (standing.Rests since) = (tried ≡ false) × (0 < rest) × (5 ≤ f) × (began ≡ since)
Stands rest f tried at began (standing.Tried since) = (tried ≡ true) × (0 < rest) × (5 ≤ f) × (at ≡ since)

-- with no rests, or some
some_rest : (rest : ℕ) → ((rest ≡ 0) × (nat_lt 0 rest ≡ false)) ⊎ ((0 < rest) × (nat_lt 0 rest ≡ true))
some_rest zero = inl (refl, refl)
some_rest (suc rest) = inr (omega arith, grind (arith, nat_tests))

stands_resting : (rest f : ℕ) (tried : Bool) (at began : ℕ) (s : Standing) (now : ℕ) → Stands rest f tried at began s
    → spec.is_resting rest s now ≡ ((nat_lt 0 rest && nat_le 5 f) && (if tried then nat_lt (now - at) 200 else nat_lt (now - began) rest))
stands_resting rest f tried at began (standing.Asked n) now (quiet, inl is) = grind (arith, nat_tests)
stands_resting rest f tried at began (standing.Asked n) now (quiet, inr is) = grind (arith, nat_tests)
stands_resting rest f tried at began (standing.Rests since) now is = grind (arith, nat_tests)
stands_resting rest f tried at began (standing.Tried since) now is = grind (arith, nat_tests)

-- who is let through is a trial exactly if the origin has failed
stands_trial : (rest f : ℕ) (tried : Bool) (at began : ℕ) (s : Standing) (now : ℕ) → Stands rest f tried at began s → spec.is_resting rest s now ≡ false
    → spec.has_rested s ≡ (nat_lt 0 rest && nat_le 5 f)
stands_trial rest f tried at began (standing.Asked n) now (quiet, inl is) free = grind (arith, nat_tests)
stands_trial rest f tried at began (standing.Asked n) now (quiet, inr is) free = grind (arith, nat_tests)
stands_trial rest f tried at began (standing.Rests since) now is free = grind (arith, nat_tests)
stands_trial rest f tried at began (standing.Tried since) now is free = grind (arith, nat_tests)

stands_let_through : (rest f : ℕ) (tried : Bool) (at began now : ℕ) (s : Standing) → Stands rest f tried at began s
    → Stands rest f (spec.has_rested s || tried) (if spec.has_rested s then now else at) began (spec.let_through s now)
stands_let_through rest f tried at began now (standing.Asked n) is = is
stands_let_through rest f tried at began now (standing.Rests since) is = (refl, is.1, is.2, refl)
stands_let_through rest f tried at began now (standing.Tried since) is = (refl, is.1, is.2, refl)

stands_reached : (rest at began : ℕ) → Stands rest 0 false at began (standing.Asked 0)
stands_reached zero at began = (refl, inl (refl, refl))
stands_reached (suc rest) at began = (refl, inr (omega arith, refl, omega arith))

-- one more failure
stands_failed : (rest f : ℕ) (tried is_trial : Bool) (at began now : ℕ) (s : Standing) → Stands rest f tried at began s
    → Stands rest (f + 1) (not is_trial && tried) at (if nat_eq f 4 || (is_trial && tried) then now else began) (spec.after_failure rest s is_trial now)
stands_failed rest f tried is_trial at began now (standing.Asked n) is = by_rest (some_rest rest) is.1
  where
    quiet : (not is_trial && tried) ≡ false
    quiet = none is_trial is.0
      where
        none : (t : Bool) → tried ≡ false → (not t && tried) ≡ false
        none true e = refl
        none false e = e

    begins : (n : ℕ) → n ≡ f → f < 5 → nat_lt (n + 1) 5 ≡ false → (if nat_eq f 4 || (is_trial && tried) then now else began) ≡ now
    begins n same below few = let four : nat_eq f 4 ≡ true = grind (arith, nat_tests) in grind (arith, nat_tests)

    by_count : 0 < rest → (few : Bool) → nat_lt (n + 1) 5 ≡ few → n ≡ f → f < 5
        → Stands rest (f + 1) (not is_trial && tried) at (if nat_eq f 4 || (is_trial && tried) then now else began) (if few then standing.Asked (n + 1) else standing.Rests now)
    by_count some true few same below = (quiet, inr (some, ap (λ (k : ℕ). k + 1) same, grind (arith, nat_tests)))
    by_count some false few same below = (quiet, some, grind (arith, nat_tests), begins n same below few)

    by_rest : ((rest ≡ 0) × (nat_lt 0 rest ≡ false)) ⊎ ((0 < rest) × (nat_lt 0 rest ≡ true)) → ((rest ≡ 0) × (n ≡ 0)) ⊎ ((0 < rest) × (n ≡ f) × (f < 5))
        → Stands rest (f + 1) (not is_trial && tried) at (if nat_eq f 4 || (is_trial && tried) then now else began) (spec.one_more_failure n rest now)
    by_rest (inl none) (inl is) =
        subst (λ (b : Bool). Stands rest (f + 1) (not is_trial && tried) at (if nat_eq f 4 || (is_trial && tried) then now else began) (if b then (if nat_lt (n + 1) 5 then standing.Asked (n + 1) else standing.Rests now) else standing.Asked n))
        (sym none.1) (quiet, inl is)
    by_rest (inl none) (inr is) = let some = is.0 in let zero = none.0 in absurd (omega arith)
    by_rest (inr some) (inl is) = let more = some.0 in let zero = is.0 in absurd (omega arith)
    by_rest (inr some) (inr is) =
        subst (λ (b : Bool). Stands rest (f + 1) (not is_trial && tried) at (if nat_eq f 4 || (is_trial && tried) then now else began) (if b then (if nat_lt (n + 1) 5 then standing.Asked (n + 1) else standing.Rests now) else standing.Asked n))
        (sym some.1) (by_count is.0 (nat_lt (n + 1) 5) refl is.1 is.2)
stands_failed rest f tried true at began now (standing.Rests since) is = (refl, is.1, grind arith, same (nat_eq f 4) refl)
  where
    same : (b : Bool) → nat_eq f 4 ≡ b → (if b || tried then now else began) ≡ since
    same true four = let most = is.2 in absurd (grind (arith, nat_tests))
    same false e = subst (λ (t : Bool). (if t then now else began) ≡ since) (sym is.0) is.3
stands_failed rest f tried false at began now (standing.Rests since) is = (is.0, is.1, grind arith, same (nat_eq f 4) refl)
  where
    same : (b : Bool) → nat_eq f 4 ≡ b → (if b || false then now else began) ≡ since
    same true four = let most = is.2 in absurd (grind (arith, nat_tests))
    same false e = is.3
stands_failed rest f tried true at began now (standing.Tried since) is = (refl, is.1, grind arith, same (nat_eq f 4))
  where
    same : (b : Bool) → (if b || tried then now else began) ≡ now
    same true = refl
    same false = subst (λ (t : Bool). (if t then now else began) ≡ now) (sym is.0) refl
stands_failed rest f tried false at began now (standing.Tried since) is = (is.0, is.1, grind arith, is.3)

-- ---- what a history tells of the state after it

record Told (h : History) (s : OriginHealth) : Type 0 where
  bounds : AreBounds s.bounds
  counted : (most : ℕ) → s.bounds.most_in_flight ≡ Some most → (s.in_flight ≡ in_flight h) × (in_flight h ≤ most)
  stands : Stands s.bounds.rest (failures h) (is_tried h) (tried_at h) (rest_began h) s.standing

told_fresh : (bounds : Bounds) → AreBounds bounds → Told [] (fresh bounds)
told_fresh bounds are = record {
  bounds = are;
  counted = λ most is. (refl, omega arith);
  stands = stands_reached bounds.rest 0 0;
}

told_granted : (h : History) (old : OriginHealth) (now : ℕ) (permit : Permit) (new : OriginHealth) → Told h old → Asks old now (Granted permit) new
    → Follows old.bounds h (Sought now (Granted permit)) × Told (Sought now (Granted permit) ∷ h) new
told_granted h old now permit new told step = ((free, below, trial), subst (Told (Sought now (Granted permit) ∷ h)) (sym step.3) after)
  where
    free : is_resting old.bounds h now ≡ false
    free = sym (stands_resting old.bounds.rest (failures h) (is_tried h) (tried_at h) (rest_began h) old.standing now told.stands) ∙ step.0

    below : (most : ℕ) → old.bounds.most_in_flight ≡ Some most → in_flight h < most
    below most is =
        let room : nat_lt old.in_flight most ≡ true = sym (ap (is_below old.in_flight) is) ∙ step.1 in
        let same = (told.counted most is).0 in
        grind (arith, nat_tests)

    trial : permit.is_trial ≡ has_failed old.bounds h
    trial = step.2 ∙ stands_trial old.bounds.rest (failures h) (is_tried h) (tried_at h) (rest_began h) old.standing now told.stands step.0

    one_more : (most : ℕ) → old.bounds.most_in_flight ≡ Some most → (min (old.in_flight + 1) (2 ^ 32 - 1) ≡ in_flight h + 1) × (in_flight h + 1 ≤ most)
    one_more most is =
        let same = (told.counted most is).0 in
        let less = below most is in
        let fits = told.bounds most is in
        (omega arith, omega arith)

    after : Told (Sought now (Granted permit) ∷ h) (record old { in_flight = min (old.in_flight + 1) (2 ^ 32 - 1); standing = spec.let_through old.standing now })
    after = record {
      bounds = told.bounds;
      counted = one_more;
      stands = subst (λ (t : Bool). Stands old.bounds.rest (failures h) (t || is_tried h) (if t then now else tried_at h) (rest_began h) (spec.let_through old.standing now))
          (sym step.2) (stands_let_through old.bounds.rest (failures h) (is_tried h) (tried_at h) (rest_began h) now old.standing told.stands);
    }

told_too_many : (h : History) (old : OriginHealth) (now : ℕ) (new : OriginHealth) → Told h old → Asks old now TooMany new
    → Follows old.bounds h (Sought now TooMany) × Told (Sought now TooMany ∷ h) new
told_too_many h old now new told step = ((free, (full old.bounds.most_in_flight refl).0, (full old.bounds.most_in_flight refl).1, (full old.bounds.most_in_flight refl).2), subst (Told (Sought now TooMany ∷ h)) (sym step.2) (record { bounds = told.bounds; counted = told.counted; stands = told.stands }))
  where
    free : is_resting old.bounds h now ≡ false
    free = sym (stands_resting old.bounds.rest (failures h) (is_tried h) (tried_at h) (rest_began h) old.standing now told.stands) ∙ step.0

    full : (o : Option ℕ) → old.bounds.most_in_flight ≡ o → (most : ℕ) × (old.bounds.most_in_flight ≡ Some most) × (in_flight h ≡ most)
    full None is = absurd (true≢false (sym (ap (is_below old.in_flight) is) ∙ step.1))
    full (Some most) is =
        let room : nat_lt old.in_flight most ≡ false = sym (ap (is_below old.in_flight) is) ∙ step.1 in
        let same = (told.counted most is).0 in
        let below = (told.counted most is).1 in
        (most, is, grind (arith, nat_tests))

told_rests : (h : History) (old : OriginHealth) (now : ℕ) (new : OriginHealth) → Told h old → Asks old now Rests new
    → Follows old.bounds h (Sought now Rests) × Told (Sought now Rests ∷ h) new
told_rests h old now new told step = (
  sym (stands_resting old.bounds.rest (failures h) (is_tried h) (tried_at h) (rest_began h) old.standing now told.stands) ∙ step.0,
  subst (Told (Sought now Rests ∷ h)) (sym step.1) (record { bounds = told.bounds; counted = told.counted; stands = told.stands }),
)

told_ended : (h : History) (old : OriginHealth) (permit : Permit) (end : FetchEnd) (now : ℕ) → Told h old → Told (Ended permit end now ∷ h) (ended old permit end now)
told_ended h old permit end now told = record { bounds = told.bounds; counted = one_fewer; stands = stands end }
  where
    one_fewer : (most : ℕ) → old.bounds.most_in_flight ≡ Some most → (old.in_flight - 1 ≡ in_flight h - 1) × (in_flight h - 1 ≤ most)
    one_fewer most is =
        let same = (told.counted most is).0 in
        let below = (told.counted most is).1 in
        (omega arith, omega arith)

    stands : (end : FetchEnd) → Stands old.bounds.rest (failures (Ended permit end now ∷ h)) (is_tried (Ended permit end now ∷ h)) (tried_at h) (rest_began (Ended permit end now ∷ h)) (spec.after old.bounds.rest old.standing permit.is_trial end now)
    stands Reached = stands_reached old.bounds.rest (tried_at h) (rest_began h)
    stands Unreachable = stands_failed old.bounds.rest (failures h) (is_tried h) permit.is_trial (tried_at h) (rest_began h) now old.standing told.stands
    stands Other = told.stands

-- ---- every step, and every run

told_step : (h : History) (old new : OriginHealth) (event : Event) → Told h old → Step old event new → Follows old.bounds h event × Told (event ∷ h) new
told_step h old new (Sought now (Granted permit)) told step = told_granted h old now permit new told step
told_step h old new (Sought now TooMany) told step = told_too_many h old now new told step
told_step h old new (Sought now Rests) told step = told_rests h old now new told step
told_step h old new (Ended permit end now) told step = (tt, subst (Told (Ended permit end now ∷ h)) (sym step) (told_ended h old permit end now told))

-- no call changes the bounds
bounds_step : (old new : OriginHealth) (event : Event) → Step old event new → new.bounds ≡ old.bounds
bounds_step old new (Sought now (Granted permit)) step = ap (λ (s : OriginHealth). s.bounds) step.3
bounds_step old new (Sought now TooMany) step = ap (λ (s : OriginHealth). s.bounds) step.2
bounds_step old new (Sought now Rests) step = ap (λ (s : OriginHealth). s.bounds) step.1
bounds_step old new (Ended permit end now) step = ap (λ (s : OriginHealth). s.bounds) step

told_run : (bounds : Bounds) → AreBounds bounds → (h : History) (s : OriginHealth) → Run bounds h s → Told h s × (s.bounds ≡ bounds) × Keeps bounds h
told_run bounds are [] s run = (subst (Told []) (sym run) (told_fresh bounds are), ap (λ (s : OriginHealth). s.bounds) run, tt)
told_run bounds are (event ∷ earlier) s run =
    let before = told_run bounds are earlier run.0 run.1 in
    let step = told_step earlier run.0 s event before.0 run.2 in
    (step.1, bounds_step run.0 s event run.2 ∙ before.1, (subst (λ (b : Bounds). Follows b earlier event) before.1 step.0, before.2))

pub health_law : HealthLaw
health_law bounds are history health run = (told_run bounds are history health run).2

pub never_more : NeverMore
never_more bounds are most history health is run =
    let told = told_run bounds are history health run in
    (told.0.counted most (ap (λ (b : Bounds). b.most_in_flight) told.1 ∙ is)).1

-- ---- what an operator cares about

-- an origin that rests has failed
failed_parts : (rest f : ℕ) (more : Bool) → ((nat_lt 0 rest && nat_le 5 f) && more) ≡ true → (0 < rest) × (5 ≤ f)
failed_parts rest f more is =
    let failed = and_parts (nat_lt 0 rest) (nat_le 5 f) (and_parts (nat_lt 0 rest && nat_le 5 f) more is).0 in
    let some = failed.0 in
    let five = failed.1 in
    (grind (arith, nat_tests), grind (arith, nat_tests))

pub reach_ends_rest : ReachEndsRest
reach_ends_rest bounds are now leave earlier health run few rests =
    let resting : is_resting bounds earlier now ≡ true = subst (λ (l : Leave). Follows bounds earlier (Sought now l)) rests (health_law bounds are (Sought now leave ∷ earlier) health run).0 in
    let five = (failed_parts bounds.rest (failures earlier) (if is_tried earlier then nat_lt (now - tried_at earlier) 200 else nat_lt (now - rest_began earlier) bounds.rest) resting).1 in
    omega arith

-- with a trial that has taken its time, an origin doesn't rest
trial_is_over : (failed tried : Bool) (at now : ℕ) (rests : Bool) → tried ≡ true → at + 200 ≤ now → (failed && (if tried then nat_lt (now - at) 200 else rests)) ≡ true → ⊥
trial_is_over failed false at now rests is over resting = true≢false (sym is)
trial_is_over failed true at now rests is over resting = let early : nat_lt (now - at) 200 ≡ true = (and_parts failed (nat_lt (now - at) 200) resting).1 in grind (arith, nat_tests)

pub trials_go_on : TrialsGoOn
trials_go_on bounds are now leave earlier health run tried over rests =
    let resting : is_resting bounds earlier now ≡ true = subst (λ (l : Leave). Follows bounds earlier (Sought now l)) rests (health_law bounds are (Sought now leave ∷ earlier) health run).0 in
    trial_is_over (has_failed bounds earlier) (is_tried earlier) (tried_at earlier) now (nat_lt (now - rest_began earlier) bounds.rest) tried over resting

pub unbounded_grants : UnboundedGrants
unbounded_grants bounds are now leave earlier health most rest run = by_leave leave (health_law bounds are (Sought now leave ∷ earlier) health run).0
  where
    no_rest : (r f : ℕ) → r ≡ 0 → (nat_lt 0 r && nat_le 5 f) ≡ false
    no_rest r f is = ap (λ (r : ℕ). nat_lt 0 r && nat_le 5 f) is

    by_leave : (leave : Leave) → Follows bounds earlier (Sought now leave) → leave ≡ Granted (record { is_trial = false })
    by_leave (Granted permit) follows = ap (λ (b : Bool). Granted (record { is_trial = b })) (follows.2 ∙ no_rest bounds.rest (failures earlier) rest)
    by_leave TooMany follows = let bound : None ≡ Some follows.1 = sym most ∙ follows.2 in absurd (cc)
    by_leave Rests follows =
        let some = (failed_parts bounds.rest (failures earlier) (if is_tried earlier then nat_lt (now - tried_at earlier) 200 else nat_lt (now - rest_began earlier) bounds.rest) follows).0 in
        absurd (omega (arith, rest, some))

-- a trial is under way only once five have failed
tried_failed : (rest f : ℕ) (tried : Bool) (at began : ℕ) (s : Standing) → Stands rest f tried at began s → tried ≡ true → 5 ≤ f
tried_failed rest f tried at began (standing.Asked n) is some = absurd (true≢false (sym some ∙ is.0))
tried_failed rest f tried at began (standing.Rests since) is some = is.2
tried_failed rest f tried at began (standing.Tried since) is some = is.2

untried : (f : ℕ) (tried : Bool) → (tried ≡ true → 5 ≤ f) → f ≡ 4 → tried ≡ false
untried f false failed four = refl
untried f true failed four = let five = failed refl in absurd (omega arith)

-- a run passes through each of its histories
run_of_tail : (bounds : Bounds) (since h : History) (s : OriginHealth) → Run bounds (since ++ h) s → (before : OriginHealth) × Run bounds h before
run_of_tail bounds [] h s run = (s, run)
run_of_tail bounds (event ∷ since) h s run = run_of_tail bounds since h run.0 run.1

-- the history of a rest that nothing has ended
abbrev RestsSince : ℕ → History → Type 0
RestsSince began h = (5 ≤ failures h) × (is_tried h ≡ false) × (rest_began h ≡ began)

rests_begun : (permit : Permit) (began : ℕ) (earlier : History) → (is_tried earlier ≡ true → 5 ≤ failures earlier) → BeginsRest permit earlier → RestsSince began (Ended permit Unreachable began ∷ earlier)
rests_begun permit began earlier failed (inl four) = (omega arith, untrying permit.is_trial, ap (λ (f : ℕ). if nat_eq f 4 || (permit.is_trial && is_tried earlier) then began else rest_began earlier) four)
  where
    untrying : (t : Bool) → (not t && is_tried earlier) ≡ false
    untrying true = refl
    untrying false = untried (failures earlier) (is_tried earlier) failed four
rests_begun permit began earlier failed (inr trial) = (let five = failed trial.1 in omega arith, ap (λ (t : Bool). not t && is_tried earlier) trial.0, began_now (nat_eq (failures earlier) 4))
  where
    began_now : (b : Bool) → (if b || (permit.is_trial && is_tried earlier) then began else rest_began earlier) ≡ began
    began_now true = refl
    began_now false = ap (λ (t : Bool). if t && is_tried earlier then began else rest_began earlier) trial.0 ∙ ap (λ (t : Bool). if t then began else rest_began earlier) trial.1

rests_on : (t : Bool) (now began since f : ℕ) (tried : Bool) → 5 ≤ f → tried ≡ false → since ≡ began → (if nat_eq f 4 || (t && tried) then now else since) ≡ began
rests_on true now began since f tried five none is = let four : nat_eq f 4 ≡ false = grind (arith, nat_tests) in grind (arith, nat_tests)
rests_on false now began since f tried five none is = let four : nat_eq f 4 ≡ false = grind (arith, nat_tests) in grind (arith, nat_tests)

none_after : (t tried : Bool) → tried ≡ false → (not t && tried) ≡ false
none_after true tried none = refl
none_after false tried none = none

rests_since : (permit : Permit) (began : ℕ) (since earlier : History) → (is_tried earlier ≡ true → 5 ≤ failures earlier) → BeginsRest permit earlier → IsQuiet since → RestsSince began (since ++ Ended permit Unreachable began ∷ earlier)
rests_since permit began [] earlier failed begins quiet = rests_begun permit began earlier failed begins
rests_since permit began (Sought now (Granted p) ∷ since) earlier failed begins quiet = absurd quiet
rests_since permit began (Sought now TooMany ∷ since) earlier failed begins quiet = rests_since permit began since earlier failed begins quiet
rests_since permit began (Sought now Rests ∷ since) earlier failed begins quiet = rests_since permit began since earlier failed begins quiet
rests_since permit began (Ended p Reached now ∷ since) earlier failed begins quiet = absurd quiet
rests_since permit began (Ended p Unreachable now ∷ since) earlier failed begins quiet = fails (since ++ Ended permit Unreachable began ∷ earlier) (rests_since permit began since earlier failed begins quiet)
  where
    fails : (h : History) → RestsSince began h → RestsSince began (Ended p Unreachable now ∷ h)
    fails h is = (let five = is.0 in omega arith, none_after p.is_trial (is_tried h) is.1, rests_on p.is_trial now began (rest_began h) (failures h) (is_tried h) is.0 is.1 is.2)
rests_since permit began (Ended p Other now ∷ since) earlier failed begins quiet = rests_since permit began since earlier failed begins quiet

-- who is let through comes after the rest
rest_is_over : (rest f : ℕ) (tried : Bool) (at began now : ℕ) → 0 < rest → 5 ≤ f → tried ≡ false
    → ((nat_lt 0 rest && nat_le 5 f) && (if tried then nat_lt (now - at) 200 else nat_lt (now - began) rest)) ≡ false → began + rest ≤ now
rest_is_over rest f true at began now some five none free = absurd (true≢false none)
rest_is_over rest f false at began now some five none free = grind (arith, nat_tests)

pub rests_whole : RestsWhole
rests_whole bounds are permit trial began now since earlier health some run begins quiet =
    let h : History = since ++ Ended permit Unreachable began ∷ earlier in
    let free : is_resting bounds h now ≡ false = (health_law bounds are (Sought now (Granted trial) ∷ h) health run).0.0 in
    let fifth = run_of_tail bounds since (Ended permit Unreachable began ∷ earlier) run.0 run.1 in
    let before = told_run bounds are earlier fifth.1.0 fifth.1.1 in
    let failed = tried_failed fifth.1.0.bounds.rest (failures earlier) (is_tried earlier) (tried_at earlier) (rest_began earlier) fifth.1.0.standing before.0.stands in
    let is = rests_since permit began since earlier failed begins quiet in
    subst (λ (b : ℕ). b + bounds.rest ≤ now) is.2 (rest_is_over bounds.rest (failures h) (is_tried h) (tried_at h) (rest_began h) now some is.0 is.1 free)
