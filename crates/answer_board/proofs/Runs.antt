-- The law of the board, by induction on the history.
use Rattle.std.proofs.Common.{◌≡◌, ◌≢◌, ◌⊎◌, inl, inr, ℕ, ◌+◌, ◌<◌, ◌≤◌, ◌==◌, Bool, true, false, not, nat_lt, List, [], ◌∷◌, ◌++◌, length, slice_get, get_or, Option, Some, None, option_map, refl, sym, ◌∙◌, ap, subst, arith, length-append, if◌then◌else◌}
use Rattle.std.proofs.Math.ListN.{set}
use Rattle.std.proofs.lemmas.Bool.{eqb-true, eqb-false}
use Rattle.std.proofs.lemmas.Bool.Decides.{nat_tests}
use Rattle.std.proofs.lemmas.Grind.{common_steps}
use Rattle.std.proofs.lemmas.List.{length-set, length-map, map-append}
use Rattle.std.proofs.lemmas.List.Quantifiers.{position-Some}
use Rattle.std.proofs.lemmas.Option.{slice_get_within, slice_get-get_or, slice_get-map}
use Rattle.edge_types.specs.Answered.{Answered}
use Rattle.edge_types.proofs.TableLemmas.{fails}
use Rattle.answer_board.specs.Board.{State, Slot, Unclaimed, Receipt, Ticket, empty, fresh, claimed, filled_with, urls, number_of, is_unclaimed, first_unclaimed, answer_in, answer_at, Opens, Claims, fill_fault, Fills, log_of}
use Rattle.answer_board.specs.Sound.{IsBoard}
use Rattle.answer_board.specs.Runs.{Event, Opened, OpenRefused, TookTicket, TookReceipt, ReceiptRefused, History, Step, Run, with_url, place_in, opened_in, tickets, filled_in, log_in, IsNumber, Follows, Keeps}
use Rattle.answer_board.specs.Laws.{BoardLaw, StrangersStayOut}
use Rattle.answer_board.proofs.Slots.{slice_get-set_same, slice_get-set_other, slice_get-push, answer_at-open, answer_at-set, urls-set, Takes}
use Rattle.answer_board.proofs.Kept.{IsBoard-open, IsBoard-claim, IsBoard-fill, at_set}
use Rattle.answer_board.proofs.Steps.{first-standing, filling, log-open, log-claim, log-fill}

-- what a history tells of the board after it
pub record Told (h : History) (b : State) : Type 0 where
  pub urls_are : urls b.slots ≡ opened_in h
  pub in_turn : (n : ℕ) (s : Slot) → slice_get b.slots n ≡ Some s → is_unclaimed s.standing ≡ not (nat_lt n (tickets h))
  pub within : tickets h ≤ length b.slots
  pub answers : (n : ℕ) → answer_at b.slots n ≡ filled_in h n
  pub logged : log_of b ≡ log_in h
  pub sound : IsBoard b

IsBoard-empty : IsBoard empty
IsBoard-empty = record {
  distinct = λ i j d before within same. absurd (let none : j < 0 = within in omega arith);
  named = λ n s answer at is. absurd (cc);
  once = λ n. refl;
}

told_empty : Told [] empty
told_empty = record {
  urls_are = refl;
  in_turn = λ n s at. absurd (cc);
  within = omega arith;
  answers = λ n. refl;
  logged = refl;
  sound = IsBoard-empty;
}

later : (n t : ℕ) → true ≡ not (nat_lt n t) → t ≤ n
later n t e = grind (arith, nat_tests, common_steps)

earlier_than : (n t : ℕ) → false ≡ not (nat_lt n t) → n < t
earlier_than n t e = grind (arith, nat_tests, common_steps)

at_or_after : (n t : ℕ) → t ≤ n → not (nat_lt n t) ≡ true
at_or_after n t h = grind (arith, nat_tests, common_steps)

less : (a b : ℕ) → nat_lt a b ≡ true → a < b
less a b e = grind (arith, nat_tests)

not_less : (a b : ℕ) → nat_lt a b ≡ false → b ≤ a
not_less a b e = grind (arith, nat_tests)

-- ---- open

told_open : (h : History) (before b : State) (url : List ℕ) (depth number : ℕ) → Told h before → (o : Option ℕ) → number_of before.slots url ≡ o → Opens o url depth before number b
    → Told (Opened url depth number ∷ h) b × Follows h (Opened url depth number)
told_open h before b url depth number told (Some place) is step = (
  subst (λ (c : State). Told (Opened url depth number ∷ h) c) (sym step.1) (record {
    urls_are = told.urls_are ∙ sym (ap (λ (p : Option ℕ). with_url p url (opened_in h)) there);
    in_turn = told.in_turn;
    within = told.within;
    answers = told.answers;
    logged = told.logged;
    sound = told.sound;
  }),
  subst (λ (p : Option ℕ). IsNumber p (opened_in h) number) (sym there) step.0,
)
  where
    there : place_in (opened_in h) url ≡ Some place
    there = ap (λ (us : List (List ℕ)). place_in us url) (sym told.urls_are) ∙ is
told_open h before b url depth number told None is step = (
  subst (λ (c : State). Told (Opened url depth number ∷ h) c) (sym step.1) (record {
    urls_are = map-append (λ (s : Slot). s.url) before.slots (fresh url depth ∷ []) ∙ ap (λ (us : List (List ℕ)). us ++ url ∷ []) told.urls_are ∙ sym (ap (λ (p : Option ℕ). with_url p url (opened_in h)) there);
    in_turn = λ n s at. turn_by n s (slice_get-push before.slots n s (fresh url depth) at);
    within = let within : tickets h ≤ length before.slots = told.within in omega (arith, length-append before.slots (fresh url depth ∷ []));
    answers = λ n. answer_at-open before.slots n url depth ∙ told.answers n;
    logged = log-open before _ None url depth number (step.0, refl) ∙ told.logged;
    sound = IsBoard-open before.slots before.filled url depth is told.sound;
  }),
  subst (λ (p : Option ℕ). IsNumber p (opened_in h) number) (sym there) counted,
)
  where
    there : place_in (opened_in h) url ≡ None
    there = ap (λ (us : List (List ℕ)). place_in us url) (sym told.urls_are) ∙ is

    counted : number ≡ length (opened_in h)
    counted = step.0 ∙ sym (length-map before.slots (λ (s : Slot). s.url)) ∙ ap length told.urls_are

    last_turn : (n : ℕ) → n ≡ length before.slots → true ≡ not (nat_lt n (tickets h))
    last_turn n e = let within : tickets h ≤ length before.slots = told.within in sym (at_or_after n (tickets h) (omega arith))

    turn_by : (n : ℕ) (s : Slot) → (slice_get before.slots n ≡ Some s) ⊎ ((n ≡ length before.slots) × (s ≡ fresh url depth)) → is_unclaimed s.standing ≡ not (nat_lt n (tickets h))
    turn_by n s (inl at) = told.in_turn n s at
    turn_by n s (inr last) = ap (λ (t : Slot). is_unclaimed t.standing) last.1 ∙ last_turn n last.0

-- ---- claim

-- the first unclaimed slot is the one after those whose tickets were given
first_number : (h : History) (b : State) (n : ℕ) (s : Slot) → Told h b → first_unclaimed b.slots ≡ Some n → slice_get b.slots n ≡ Some s → n ≡ tickets h
first_number h b n s told first at = by_order (nat_lt (tickets h) n) refl
  where
    after : tickets h ≤ n
    after = later n (tickets h) (sym (ap is_unclaimed (first-standing b.slots n s first at)) ∙ told.in_turn n s at)

    below : n < length b.slots
    below = slice_get_within b.slots n s at

    by_order : (t : Bool) → nat_lt (tickets h) n ≡ t → n ≡ tickets h
    by_order true is =
        let before : tickets h < n = less (tickets h) n is in
        let end : n < length b.slots = below in
        let there : slice_get b.slots (tickets h) ≡ Some (get_or b.slots (tickets h) s) = slice_get-get_or b.slots (tickets h) s (omega arith) in
        let yes : is_unclaimed (get_or b.slots (tickets h) s).standing ≡ true = told.in_turn (tickets h) (get_or b.slots (tickets h) s) there ∙ at_or_after (tickets h) (tickets h) (omega arith) in
        let no : is_unclaimed (get_or b.slots (tickets h) s).standing ≡ false = (position-Some (λ (t : Slot). is_unclaimed t.standing) b.slots n s first).2 (tickets h) before in
        absurd (cc)
    by_order false is = let past : n ≤ tickets h = not_less (tickets h) n is in let from : tickets h ≤ n = after in omega arith

none_left : (h : History) (b : State) → Told h b → first_unclaimed b.slots ≡ None → tickets h ≡ length b.slots
none_left h b told none = by_order (nat_lt (tickets h) (length b.slots)) refl
  where
    by_order : (t : Bool) → nat_lt (tickets h) (length b.slots) ≡ t → tickets h ≡ length b.slots
    by_order true is =
        let before : tickets h < length b.slots = less (tickets h) (length b.slots) is in
        let d : Slot = fresh [] 0 in
        let there : slice_get b.slots (tickets h) ≡ Some (get_or b.slots (tickets h) d) = slice_get-get_or b.slots (tickets h) d before in
        let yes : is_unclaimed (get_or b.slots (tickets h) d).standing ≡ true = told.in_turn (tickets h) (get_or b.slots (tickets h) d) there ∙ at_or_after (tickets h) (tickets h) (omega arith) in
        let no : is_unclaimed (get_or b.slots (tickets h) d).standing ≡ false = fails (λ (t : Slot). is_unclaimed t.standing) b.slots none (tickets h) d before in
        absurd (cc)
    by_order false is = let within : tickets h ≤ length b.slots = told.within in let past : length b.slots ≤ tickets h = not_less (tickets h) (length b.slots) is in omega arith

-- the URL of a slot is that of its opening
url_at : (h : History) (b : State) (n : ℕ) (s : Slot) → Told h b → slice_get b.slots n ≡ Some s → slice_get (opened_in h) n ≡ Some s.url
url_at h b n s told at = ap (λ (us : List (List ℕ)). slice_get us n) (sym told.urls_are) ∙ slice_get-map (λ (t : Slot). t.url) b.slots n ∙ ap (option_map (λ (t : Slot). t.url)) at

told_claim : (h : History) (before b : State) (o : Option Ticket) → Told h before → Claims before o b → Told (TookTicket o ∷ h) b × Follows h (TookTicket o)
told_claim h before b None told step = (
  subst (λ (c : State). Told (TookTicket None ∷ h) c) (sym step.1) (record {
    urls_are = told.urls_are;
    in_turn = told.in_turn;
    within = told.within;
    answers = told.answers;
    logged = told.logged;
    sound = told.sound;
  }),
  none_left h before told step.0 ∙ sym (length-map before.slots (λ (s : Slot). s.url)) ∙ ap length told.urls_are,
)
told_claim h before b (Some ticket) told step = (
  subst (λ (c : State). Told (TookTicket (Some ticket) ∷ h) c) (sym step.1.3) (record {
    urls_are = urls-set before.slots n s (claimed s) at refl ∙ told.urls_are;
    in_turn = λ k t there. turn_by k t (at_set before.slots n k s (claimed s) t at there);
    within = let below : n < length before.slots = slice_get_within before.slots n s at in let is = number_is in omega (arith, length-set before.slots n (claimed s));
    answers = λ k. answer_at-set before.slots n k s (claimed s) at (sym (ap answer_in unclaimed)) ∙ told.answers k;
    logged = log-claim before _ (Some ticket) (step.0, (s, at, step.1.2, refl)) ∙ told.logged;
    sound = IsBoard-claim before.slots before.filled n s at unclaimed told.sound;
  }),
  (number_is, url_at h before n s told at ∙ ap Some (sym step.1.2)),
)
  where
    n : ℕ
    n = ticket.number

    s : Slot
    s = step.1.0

    at : slice_get before.slots n ≡ Some s
    at = step.1.1

    unclaimed : s.standing ≡ Unclaimed
    unclaimed = first-standing before.slots n s step.0 at

    number_is : n ≡ tickets h
    number_is = first_number h before n s told step.0 at

    own_turn : (k : ℕ) → k ≡ n → false ≡ not (nat_lt k (tickets h + 1))
    own_turn k e = let is = number_is in let same : k ≡ tickets h = e ∙ is in grind (arith, nat_tests, common_steps)

    other_turn : (k : ℕ) → k ≢ n → not (nat_lt k (tickets h)) ≡ not (nat_lt k (tickets h + 1))
    other_turn k e = other k (λ same. e (same ∙ sym number_is))
      where
        other : (k : ℕ) → k ≢ tickets h → not (nat_lt k (tickets h)) ≡ not (nat_lt k (tickets h + 1))
        other k e = grind (arith, nat_tests, common_steps)

    turn_by : (k : ℕ) (t : Slot) → ((k ≡ n) × (t ≡ claimed s)) ⊎ ((k ≢ n) × (slice_get before.slots k ≡ Some t)) → is_unclaimed t.standing ≡ not (nat_lt k (tickets h + 1))
    turn_by k t (inl own) = ap (λ (u : Slot). is_unclaimed u.standing) own.1 ∙ own_turn k own.0
    turn_by k t (inr other) = told.in_turn k t other.1 ∙ other_turn k other.0

-- ---- fill

told_fill : (h : History) (before b : State) (receipt : Receipt) → Told h before → fill_fault before.slots receipt ≡ None → Fills before receipt b → Told (TookReceipt receipt ∷ h) b × Follows h (TookReceipt receipt)
told_fill h before b receipt told none step = (
  subst (λ (c : State). Told (TookReceipt receipt ∷ h) c) (sym step.2) (record {
    urls_are = urls-set before.slots n s y at refl ∙ told.urls_are;
    in_turn = λ k t there. turn_by k t (at_set before.slots n k s y t at there);
    within = let within : tickets h ≤ length before.slots = told.within in omega (arith, length-set before.slots n y);
    answers = λ k. answers_by k (k == n) refl;
    logged = log-fill before _ receipt told.sound none (s, at, refl) ∙ ap (λ (xs : List Answered). xs ++ receipt.answer ∷ []) told.logged;
    sound = IsBoard-fill before.slots before.filled receipt s at takes told.sound;
  }),
  (sym (told.answers n) ∙ unfilled_yet, earlier_than n (tickets h) (sym (ap is_unclaimed takes.is_claimed) ∙ told.in_turn n s at), url_at h before n s told at ∙ ap Some (sym takes.named)),
)
  where
    n : ℕ
    n = receipt.number

    s : Slot
    s = step.0

    at : slice_get before.slots n ≡ Some s
    at = step.1

    y : Slot
    y = filled_with receipt.answer s

    takes : Takes s receipt
    takes = filling before b receipt none step

    unfilled_yet : answer_at before.slots n ≡ None
    unfilled_yet = rw at (ap answer_in takes.is_claimed)

    answers_by : (k : ℕ) (t : Bool) → (k == n) ≡ t → answer_at (set before.slots n y) k ≡ (if k == n then Some receipt.answer else filled_in h k)
    answers_by k true is = rw (is, eqb-true k n is, slice_get-set_same before.slots n s y at) refl
    answers_by k false is = rw (is, slice_get-set_other before.slots n k y (eqb-false k n is)) (told.answers k)

    turn_by : (k : ℕ) (t : Slot) → ((k ≡ n) × (t ≡ y)) ⊎ ((k ≢ n) × (slice_get before.slots k ≡ Some t)) → is_unclaimed t.standing ≡ not (nat_lt k (tickets h))
    turn_by k t (inl own) = ap (λ (u : Slot). is_unclaimed u.standing) own.1 ∙ sym (ap is_unclaimed takes.is_claimed) ∙ told.in_turn n s at ∙ ap (λ (i : ℕ). not (nat_lt i (tickets h))) (sym own.0)
    turn_by k t (inr other) = told.in_turn k t other.1

-- ---- runs

told_step : (h : History) (before b : State) (event : Event) → Told h before → Step before event b → Told (event ∷ h) b × Follows h event
told_step h before b (Opened url depth number) told step = told_open h before b url depth number told (number_of before.slots url) refl step
told_step h before b (OpenRefused url depth) told step =
    (subst (λ (c : State). Told (OpenRefused url depth ∷ h) c) (sym step) (record { urls_are = told.urls_are; in_turn = told.in_turn; within = told.within; answers = told.answers; logged = told.logged; sound = told.sound }), tt)
told_step h before b (TookTicket ticket) told step = told_claim h before b ticket told step
told_step h before b (TookReceipt receipt) told step = told_fill h before b receipt told step.0 step.1
told_step h before b (ReceiptRefused receipt fault) told step =
    (subst (λ (c : State). Told (ReceiptRefused receipt fault ∷ h) c) (sym step.1) (record { urls_are = told.urls_are; in_turn = told.in_turn; within = told.within; answers = told.answers; logged = told.logged; sound = told.sound }), tt)

told_run : (h : History) (b : State) → Run h b → Told h b × Keeps h
told_run [] b run = (subst (Told []) (sym run) told_empty, tt)
told_run (event ∷ earlier) b run =
    let before = told_run earlier run.0 run.1 in
    let step = told_step earlier run.0 b event before.0 run.2 in
    (step.0, (step.1, before.1))

pub board_law : BoardLaw
board_law h b run = let told = told_run h b run in (told.1, told.0.urls_are, told.0.answers, told.0.logged)

pub strangers : StrangersStayOut
strangers old new receipt step =
    let takes = filling old new receipt step.0 step.1 in (
      slice_get-map (λ (t : Slot). t.url) old.slots receipt.number ∙ ap (option_map (λ (t : Slot). t.url)) step.1.1 ∙ ap Some (sym takes.named),
      subst (λ (b : State). answer_at b.slots receipt.number ≡ Some receipt.answer) (sym step.1.2) (rw (slice_get-set_same old.slots receipt.number step.1.0 (filled_with receipt.answer step.1.0) step.1.1) refl),
    )
