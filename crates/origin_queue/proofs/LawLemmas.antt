-- The laws of a queue, by induction on the history.
use Rattle.std.proofs.Common.{◌≡◌, inl, inr, ℕ, ◌+◌, ◌-◌, ◌^◌, ◌<◌, ◌≤◌, ◌⊎◌, Bool, true, false, List, [], ◌∷◌, ◌++◌, length, Option, Some, None, refl, sym, ◌∙◌, ap, subst, arith, nat_lt, nat_le, length-append, if◌then◌else◌}
use Rattle.std.proofs.lemmas.Bool.{and_parts, and_cases, or_cases, or_parts, ltb-true, ltb-false, leb-true, leb-false}
use Rattle.origin_queue.specs.declared.queue.QueueBounds.{QueueBounds}
use Rattle.origin_queue.specs.declared.queue.Place.{Place}
use Rattle.origin_queue.specs.declared.queue.Ruling.TheVariants.{Goes, Waits, Full}
use Rattle.origin_queue.specs.Queued.{Queued, stands, without}
use Rattle.origin_queue.specs.Queue.{may_go, Asks, Frees, LeavesAs}
use Rattle.origin_queue.specs.Law.{Event, Asked, Freed, Took, Left, Dismissed, History, Step, Run, given, but_called, and_called, waiting, called, kept_for, out, IsFirst, Follows, Keeps, QueueLaw, NeverMoreWait, NeverMoreOut, NoCallIsLost, IsCalledBy, WasCalled, NobodyOvertakes}
use Rattle.origin_queue.proofs.PlaceLemmas.{without_none, length_without, length_none, Between, between_push, between_within, between_without, between_stands, without_below, without_first, Below, below_more, below_push, below_without, below_stands}

abbrev with : QueueBounds → ℕ → ℕ → List ℕ → List ℕ → Queued
with bounds out given waiting called = record { bounds = bounds; out = out; given = given; waiting = waiting; called = called }

-- the queue after a history
abbrev after : QueueBounds → History → Queued
after bounds h = with bounds (out h) (given h) (waiting h) (called h)

-- ---- what holds after each history

-- what holds of a queue with so many permits out and so many places given, where these wait, these are called, and those
-- were called before
record Sound (bounds : QueueBounds) (out given : ℕ) (waiting called : List ℕ) (Was : ℕ → Type 0) : Type 0 where
  within : out ≤ bounds.permits
  busy : (waiting ≡ []) ⊎ (out ≡ bounds.permits)
  few : length waiting ≤ bounds.most_waiting
  -- whoever was called is below this number, and whoever waits is not
  mark : ℕ
  called_below : Below mark called
  all_below : (n : ℕ) → Was n → n < mark
  in_order : Between mark given waiting

abbrev Holds : QueueBounds → History → Type 0
Holds bounds h = Sound bounds (out h) (given h) (waiting h) (called h) (λ n. WasCalled n h)

holds_fresh : (bounds : QueueBounds) → Holds bounds []
holds_fresh bounds = record {
  within = omega arith;
  busy = inl refl;
  few = omega arith;
  mark = 0;
  called_below = tt;
  all_below = λ n is. absurd is;
  in_order = omega arith;
}

-- what a step has to show
abbrev Shows : QueueBounds → History → Event → Queued → Type 0
Shows bounds h event new = Follows bounds h event × (new ≡ after bounds (event ∷ h)) × Holds bounds (event ∷ h)

goes : (bounds : QueueBounds) (h : History) (new : Queued) → Holds bounds h → Asks (after bounds h) Goes new → Shows bounds h (Asked Goes) new
goes bounds h new holds step = (
  (none, free),
  step.1,
  record {
    within = omega (arith, free);
    busy = inl none;
    few = holds.few;
    mark = holds.mark;
    called_below = holds.called_below;
    all_below = holds.all_below;
    in_order = holds.in_order;
  },
)
  where
    both : (nat_le (length (waiting h)) 0 ≡ true) × (nat_lt (out h) bounds.permits ≡ true)
    both = and_parts (nat_le (length (waiting h)) 0) (nat_lt (out h) bounds.permits) step.0

    none : waiting h ≡ []
    none = length_none (waiting h) (leb-true (length (waiting h)) 0 both.0)

    free : out h < bounds.permits
    free = ltb-true (out h) bounds.permits both.1

-- who may not go finds no permit free
no_permit : (bounds : QueueBounds) (h : History) → Holds bounds h → may_go (after bounds h) ≡ false → out h ≡ bounds.permits
no_permit bounds h holds kept = by_busy holds.busy
  where
    by_test : waiting h ≡ [] → (nat_le (length (waiting h)) 0 ≡ false) ⊎ (nat_lt (out h) bounds.permits ≡ false) → out h ≡ bounds.permits
    by_test none (inl some) = let long = leb-false (length (waiting h)) 0 some in let empty = ap (length {A = ℕ}) none in absurd (omega arith)
    by_test none (inr all) = let le = ltb-false (out h) bounds.permits all in let within = holds.within in omega arith

    by_busy : (waiting h ≡ []) ⊎ (out h ≡ bounds.permits) → out h ≡ bounds.permits
    by_busy (inl none) = by_test none (and_cases (nat_le (length (waiting h)) 0) (nat_lt (out h) bounds.permits) kept)
    by_busy (inr all) = all

waits : (bounds : QueueBounds) (h : History) (place : Place) (new : Queued) → Holds bounds h → Asks (after bounds h) (Waits place) new → Shows bounds h (Asked (Waits place)) new
waits bounds h place new holds step = (
  (all, room, step.2.0),
  step.2.1 ∙ ap (λ (n : ℕ). with bounds (out h) (given h + 1) (waiting h ++ n ∷ []) (called h)) (sym step.2.0),
  record {
    within = holds.within;
    busy = inr all;
    few = subst (λ (n : ℕ). n ≤ bounds.most_waiting) (sym (length-append (waiting h) (place.number ∷ []))) (omega (arith, room));
    mark = holds.mark;
    called_below = holds.called_below;
    all_below = holds.all_below;
    in_order = subst (λ (n : ℕ). Between holds.mark (given h + 1) (waiting h ++ n ∷ [])) (sym step.2.0) (between_push holds.mark (given h) (waiting h) holds.in_order);
  },
)
  where
    all : out h ≡ bounds.permits
    all = no_permit bounds h holds step.0

    room : length (waiting h) < bounds.most_waiting
    room = leb-false bounds.most_waiting (length (waiting h)) (or_parts (nat_le bounds.most_waiting (length (waiting h))) (nat_le (2 ^ 64 - 1) (given h)) step.1).0

full : (bounds : QueueBounds) (h : History) (new : Queued) → Holds bounds h → Asks (after bounds h) Full new → Shows bounds h (Asked Full) new
full bounds h new holds step = (
  (no_permit bounds h holds step.0, by_test (or_cases (nat_le bounds.most_waiting (length (waiting h))) (nat_le (2 ^ 64 - 1) (given h)) step.1)),
  step.2,
  holds,
)
  where
    by_test : (nat_le bounds.most_waiting (length (waiting h)) ≡ true) ⊎ (nat_le (2 ^ 64 - 1) (given h) ≡ true) → (length (waiting h) ≡ bounds.most_waiting) ⊎ (2 ^ 64 - 1 ≤ given h)
    by_test (inl many) = let le = leb-true bounds.most_waiting (length (waiting h)) many in let few = holds.few in inl (omega arith)
    by_test (inr last) = inr (leb-true (2 ^ 64 - 1) (given h) last)

-- ---- a permit that is handed back, by a fetch or by who was called and leaves: what holds of any list of those called

abbrev Handed : QueueBounds → History → List ℕ → Option Place → Queued → Type 0
Handed bounds h others next new = IsFirst next (waiting h) (but_called next (waiting h))
    × (new ≡ with bounds (kept_for next (out h)) (given h) (but_called next (waiting h)) (and_called next others))
    × Sound bounds (kept_for next (out h)) (given h) (but_called next (waiting h)) (and_called next others) (λ n. IsCalledBy n next ⊎ WasCalled n h)

hands : (bounds : QueueBounds) (h : History) (others : List ℕ) (next : Option Place) (new : Queued) (holds : Holds bounds h) → Below holds.mark others
    → Frees (with bounds (out h) (given h) (waiting h) others) next new → Handed bounds h others next new
hands bounds h others None new holds below step = (
  step.0,
  step.1,
  record {
    within = let within = holds.within in omega arith;
    busy = inl step.0;
    few = holds.few;
    mark = holds.mark;
    called_below = below;
    all_below = all;
    in_order = holds.in_order;
  },
)
  where
    all : (n : ℕ) → IsCalledBy n None ⊎ WasCalled n h → n < holds.mark
    all n (inl is) = absurd is
    all n (inr is) = holds.all_below n is
hands bounds h others (Some place) new holds below step = (
  step.0 ∙ ap (λ (l : List ℕ). place.number ∷ l) (sym later),
  step.1 ∙ ap (λ (l : List ℕ). with bounds (out h) (given h) l (others ++ place.number ∷ [])) (sym later),
  record {
    within = holds.within;
    busy = by_busy holds.busy;
    few = let fewer = length_without place.number (waiting h) in let few = holds.few in omega arith;
    mark = place.number + 1;
    called_below = below_push (place.number + 1) place.number others (omega arith) (below_more holds.mark (place.number + 1) others (omega (arith, order.0)) below);
    all_below = all;
    in_order = subst (Between (place.number + 1) (given h)) (sym later) order.1;
  },
)
  where
    later : without place.number (waiting h) ≡ new.waiting
    later = without_first place.number holds.mark (given h) (waiting h) new.waiting step.0 holds.in_order

    order : Between holds.mark (given h) (place.number ∷ new.waiting)
    order = subst (Between holds.mark (given h)) step.0 holds.in_order

    by_busy : (waiting h ≡ []) ⊎ (out h ≡ bounds.permits) → (without place.number (waiting h) ≡ []) ⊎ (out h ≡ bounds.permits)
    by_busy (inl none) = inl (ap (without place.number) none)
    by_busy (inr all) = inr all

    all : (n : ℕ) → IsCalledBy n (Some place) ⊎ WasCalled n h → n < place.number + 1
    all n (inl is) = omega (arith, is)
    all n (inr is) = let before = holds.all_below n is in let le = order.0 in omega arith

freed : (bounds : QueueBounds) (h : History) (next : Option Place) (new : Queued) → Holds bounds h → Frees (after bounds h) next new → Shows bounds h (Freed next) new
freed bounds h next new holds step = hands bounds h (called h) next new holds holds.called_below step

took : (bounds : QueueBounds) (h : History) (place : Place) (was_called : Bool) (new : Queued) → Holds bounds h → Step (after bounds h) (Took place was_called) new
    → Shows bounds h (Took place was_called) new
took bounds h place was_called new holds step = (
  step.0,
  step.1,
  record {
    within = holds.within;
    busy = holds.busy;
    few = holds.few;
    mark = holds.mark;
    called_below = below_without place.number holds.mark (called h) holds.called_below;
    all_below = holds.all_below;
    in_order = holds.in_order;
  },
)

left : (bounds : QueueBounds) (h : History) (place : Place) (next : Option Place) (new : Queued) → Holds bounds h → Step (after bounds h) (Left place next) new
    → Shows bounds h (Left place next) new
left bounds h place next new holds step = by_called (stands place.number (called h)) refl step
  where
    kept : (b : Bool) → stands place.number (called h) ≡ b → out (Left place next ∷ h) ≡ (if b then kept_for next (out h) else out h)
    kept b is = ap (λ (b : Bool). if b then kept_for next (out h) else out h) is

    -- who was called doesn't wait
    waited : stands place.number (called h) ≡ true → without place.number (waiting h) ≡ waiting h
    waited is = without_below place.number holds.mark (given h) (waiting h) (below_stands place.number holds.mark (called h) holds.called_below is) holds.in_order

    shown : stands place.number (called h) ≡ true → Handed bounds h (without place.number (called h)) next new → Shows bounds h (Left place next) new
    shown is to = let sound = to.2 in (
      inl (is, subst (λ (l : List ℕ). IsFirst next (waiting h) (but_called next l)) (sym (waited is)) to.0),
      to.1 ∙ (λ i. with bounds (sym (kept true is) i) (given h) (but_called next (sym (waited is) i)) (and_called next (without place.number (called h)))),
      record {
        within = subst (λ (n : ℕ). n ≤ bounds.permits) (sym (kept true is)) sound.within;
        busy = subst (λ (n : ℕ). (but_called next (without place.number (waiting h)) ≡ []) ⊎ (n ≡ bounds.permits)) (sym (kept true is))
            (subst (λ (l : List ℕ). (but_called next l ≡ []) ⊎ (kept_for next (out h) ≡ bounds.permits)) (sym (waited is)) sound.busy);
        few = subst (λ (l : List ℕ). length (but_called next l) ≤ bounds.most_waiting) (sym (waited is)) sound.few;
        mark = sound.mark;
        called_below = sound.called_below;
        all_below = sound.all_below;
        in_order = subst (λ (l : List ℕ). Between sound.mark (given h) (but_called next l)) (sym (waited is)) sound.in_order;
      },
    )

    by_called : (b : Bool) → stands place.number (called h) ≡ b → LeavesAs b (after bounds h) place.number next new → Shows bounds h (Left place next) new
    by_called true is step = shown is (hands bounds h (without place.number (called h)) next new holds (below_without place.number holds.mark (called h) holds.called_below) step)
    by_called false is step = uncalled_left next is step.0 step.1 kept
      where
        uncalled_left : (next : Option Place) → stands place.number (called h) ≡ false → next ≡ None → new ≡ record (after bounds h) { waiting = without place.number (waiting h) }
            → ((b : Bool) → stands place.number (called h) ≡ b → out (Left place next ∷ h) ≡ (if b then kept_for next (out h) else out h)) → Shows bounds h (Left place next) new
        uncalled_left (Some other) is none same kept = absurd (cc)
        uncalled_left None is none same kept = (
          inr (is, refl),
          same ∙ (λ i. with bounds (sym (kept false is) i) (given h) (without place.number (waiting h)) (sym (without_none place.number (called h) is) i)),
          record {
            within = subst (λ (n : ℕ). n ≤ bounds.permits) (sym (kept false is)) holds.within;
            busy = subst (λ (n : ℕ). (without place.number (waiting h) ≡ []) ⊎ (n ≡ bounds.permits)) (sym (kept false is)) (by_busy holds.busy);
            few = let fewer = length_without place.number (waiting h) in let few = holds.few in omega arith;
            mark = holds.mark;
            called_below = below_without place.number holds.mark (called h) holds.called_below;
            all_below = all;
            in_order = between_without place.number holds.mark (given h) (waiting h) holds.in_order;
          },
        )
          where
            by_busy : (waiting h ≡ []) ⊎ (out h ≡ bounds.permits) → (without place.number (waiting h) ≡ []) ⊎ (out h ≡ bounds.permits)
            by_busy (inl empty) = inl (ap (without place.number) empty)
            by_busy (inr all) = inr all

            all : (n : ℕ) → IsCalledBy n None ⊎ WasCalled n h → n < holds.mark
            all n (inl is) = absurd is
            all n (inr is) = holds.all_below n is

dismissed : (bounds : QueueBounds) (h : History) (new : Queued) → Holds bounds h → Step (after bounds h) Dismissed new → Shows bounds h Dismissed new
dismissed bounds h new holds step = (
  tt,
  step,
  record {
    within = holds.within;
    busy = inl refl;
    few = omega arith;
    mark = holds.mark;
    called_below = holds.called_below;
    all_below = holds.all_below;
    in_order = between_within holds.mark (given h) (waiting h) holds.in_order;
  },
)

-- ---- every step, and every run

each_step : (bounds : QueueBounds) (h : History) (event : Event) (new : Queued) → Holds bounds h → Step (after bounds h) event new → Shows bounds h event new
each_step bounds h (Asked Goes) new holds step = goes bounds h new holds step
each_step bounds h (Asked (Waits place)) new holds step = waits bounds h place new holds step
each_step bounds h (Asked Full) new holds step = full bounds h new holds step
each_step bounds h (Freed next) new holds step = freed bounds h next new holds step
each_step bounds h (Took place was_called) new holds step = took bounds h place was_called new holds step
each_step bounds h (Left place next) new holds step = left bounds h place next new holds step
each_step bounds h Dismissed new holds step = dismissed bounds h new holds step

each_run : (bounds : QueueBounds) (h : History) (queue : Queued) → Run bounds h queue → (queue ≡ after bounds h) × Holds bounds h × Keeps bounds h
each_run bounds [] queue run = (run, holds_fresh bounds, tt)
each_run bounds (event ∷ earlier) queue run =
    let before = each_run bounds earlier run.0 run.1 in
    let step = each_step bounds earlier event queue before.1 (subst (λ (old : Queued). Step old event queue) before.0 run.2) in
    (step.1, step.2, (step.0, before.2))

pub queue_law : QueueLaw
queue_law bounds history queue run = (each_run bounds history queue run).2

pub never_more_wait : NeverMoreWait
never_more_wait bounds history queue run = (each_run bounds history queue run).1.few

pub never_more_out : NeverMoreOut
never_more_out bounds history queue run = (each_run bounds history queue run).1.within

pub no_call_is_lost : NoCallIsLost
no_call_is_lost bounds history queue run some = by_busy (each_run bounds history queue run).1.busy
  where
    by_busy : (waiting history ≡ []) ⊎ (out history ≡ bounds.permits) → out history ≡ bounds.permits
    by_busy (inl none) = absurd (some none)
    by_busy (inr all) = all

pub nobody_overtakes : NobodyOvertakes
nobody_overtakes bounds history queue run first later was waits =
    let holds = (each_run bounds history queue run).1 in
    let before = holds.all_below first was in
    let behind = between_stands later holds.mark (given history) (waiting history) holds.in_order waits in
    omega arith
