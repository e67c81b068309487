-- What each event keeps of a page and the tickets in hand, and that a post leaves fewer answers to come.
use Rattle.std.proofs.Common.{◌≡◌, ◌⊎◌, inl, inr, ℕ, zero, suc, ◌+◌, ◌-◌, ◌≤◌, ◌<◌, Bool, true, false, nat_lt, cond, bytes_eq, not, List, [], ◌∷◌, ◌++◌, remove, length, position, slice_get, get_or, Contains, count_by, Option, Some, None, IsSome, is_some, is_none, option_to_list, option_and_then, if◌then◌else◌, refl, sym, ◌∙◌, ap, subst, arith}
use Rattle.std.specs.List.{sum_by}
use Rattle.std.proofs.Math.ListN.{set}
use Rattle.std.proofs.lemmas.List.{append-nil}
use Rattle.std.proofs.lemmas.List.Elements.{All-push}
use Rattle.std.proofs.lemmas.List.Sums.{sum_by-set}
use Rattle.std.proofs.lemmas.Option.{slice_get_within, get_or_from_slice_get, slice_get-get_or}
use Rattle.edge_types.specs.declared.request.Request.{Request}
use Rattle.edge_types.specs.Answered.{Answered}
use Rattle.edge_types.specs.Table.{answer_of, reply_of, Agrees}
use Rattle.esi_meaning.specs.Meaning.{asked, outcome}
use Rattle.esi_meaning.specs.Run.{Leg, Asks, AsksNobody}
use Rattle.esi_meaning.specs.State as meaning
use Rattle.esi_meaning.specs.State.{state, waits_at}
use Rattle.esi_meaning.specs.Laws.{IsLegOf}
use Rattle.esi_meaning.proofs.WaitLaws.{waits_at_leg, leg_is_waited_for}
use Rattle.answer_board.specs.Board.{State, Slot, Standing, Unclaimed, Claimed, Filled, Ticket, Receipt, fresh, claimed, filled_with, urls, number_of, answer_in, answer_at, is_unclaimed, first_unclaimed, with_slot, Opens, Claims, fill_fault, log_of}
use Rattle.answer_board.specs.Sound.{IsBoard, one_if, unfilled}
use Rattle.answer_board.proofs.Log.{log-answers, slot_of_number}
use Rattle.answer_board.proofs.Slots.{urls-set}
use Rattle.answer_board.proofs.Steps.{first-standing}
use Rattle.plan_machine.specs.Headline.{IsTrueOver}
use Rattle.esi_meaning.specs.Ahead.{ahead_of}
use Rattle.answer_board.specs.declared.board.FillFault.{FillFault}
use Rattle.plan_runner.specs.declared.page.PostFault.{PostFault}
use Rattle.plan_runner.specs.declared.page.PostFault.TheVariants as refusal
use Rattle.plan_runner.specs.declared.page.State as told
use Rattle.plan_runner.specs.declared.page.State.TheVariants as tells
use Rattle.plan_runner.specs.Ahead.{Opening, opened}
use Rattle.plan_runner.specs.Calls.{TakesIn, Refuses, Posted, Awaits, Moves, told_state, standing_after, only_board, with_opening}
use Rattle.plan_runner.specs.Events.{Held, IsPost, Advances, answered_by, receipt_of, empty_handed}
use Rattle.plan_runner.specs.Holding.{is_claimed_at, AreTickets, IsHeld, without_slot, left, unclaimed, IsSameBut, ClaimsOne, OnlyClaims}
use Rattle.plan_runner.specs.Page as page
use Rattle.plan_runner.specs.Page.{Page, Standing as PageStanding, accepted, ClaimsOf}
use Rattle.plan_runner.proofs.Growing.{Grows, grows_same, grows_push, number_push, unfilled_push, without_less, opened_grows, weight, opened_weighs}
use Rattle.plan_runner.proofs.Tickets.{tickets_grow, tickets_claim, tickets_fill, Slotted, slot_of, takes_receipt, some_ticket, all_claimed}

some_stays : (a b : Option ℕ) → ((n : ℕ) → a ≡ Some n → b ≡ Some n) → IsSome a → IsSome b
some_stays None b h some = absurd (cc)
some_stays (Some n) b h some = ap is_some (h n refl)

-- ---- a page of which no answer is in

pub held_accepted : (table : List Answered) (u : List ℕ) (r : Request) (ahead L : ℕ) → IsHeld table (empty_handed (accepted u r ahead L))
held_accepted table u r ahead L = record {
  whole = λ e. absurd (cc);
  agrees = λ k d h. absurd (omega (arith, h));
  own = ap is_some (number_push [] u 0 refl);
  tickets = record { named = tt; counted = counted };
}
  where
    counted : (n : ℕ) → 0 ≡ one_if (is_claimed_at (fresh u 0 ∷ []) n)
    counted zero = refl
    counted (suc n) = refl

-- ---- claim

-- what a claim does to the slots
pub record OneClaim (old new : State) (o : Option Ticket) : Type 0 where
  pub urls_are : urls new.slots ≡ urls old.slots
  pub unfilled_are : unfilled new.slots ≡ unfilled old.slots
  pub tickets : (ts : List Ticket) → AreTickets old.slots ts → AreTickets new.slots (ts ++ option_to_list o)

no_claim : (b : State) → OneClaim b b None
no_claim b = record { urls_are = refl; unfilled_are = refl; tickets = λ ts h. subst (AreTickets b.slots) (sym (append-nil ts)) h }

open_weight : Standing → ℕ
open_weight t = one_if (not (is_some (answer_in t)))

unfilled_set : (slots : List Slot) (n : ℕ) (x y : Slot) → slice_get slots n ≡ Some x → unfilled (set slots n y) + open_weight x.standing ≡ unfilled slots + open_weight y.standing
unfolding open_weight
unfilled_set slots n x y at =
    let f : Slot → ℕ = λ (t : Slot). one_if (not (is_some (answer_in t.standing))) in
    let change : sum_by f (set slots n y) + f (get_or slots n x) ≡ sum_by f slots + f y = sum_by-set f slots n y x (slice_get_within slots n x at) in
    let own : f (get_or slots n x) ≡ f x = ap f (get_or_from_slice_get slots n x x at) in
    let sum : sum_by f (set slots n y) + f x ≡ sum_by f slots + f y = omega arith in
    sum

unfilled_claim : (slots : List Slot) (n : ℕ) (s : Slot) → slice_get slots n ≡ Some s → s.standing ≡ Unclaimed → unfilled (set slots n (claimed s)) ≡ unfilled slots
unfolding open_weight
unfilled_claim slots n s at is =
    let change = unfilled_set slots n s (claimed s) at in
    let own : open_weight s.standing ≡ 1 = ap open_weight is in
    let after : open_weight Claimed ≡ 1 = refl in
    omega arith

unfilled_fill : (slots : List Slot) (n : ℕ) (s : Slot) (answer : Answered) → slice_get slots n ≡ Some s → s.standing ≡ Claimed → unfilled (set slots n (filled_with answer s)) + 1 ≡ unfilled slots
unfolding open_weight
unfilled_fill slots n s answer at is =
    let change = unfilled_set slots n s (filled_with answer s) at in
    let own : open_weight s.standing ≡ 1 = ap open_weight is in
    let after : open_weight (Filled answer) ≡ 0 = refl in
    omega arith

claims_one : (old new : State) (o : Option Ticket) → Claims old o new → OneClaim old new o
claims_one old new None step = subst (λ (b : State). OneClaim old b None) (sym step.1) (no_claim old)
claims_one old new (Some t) step =
    let s = step.1.0 in
    let at = step.1.1 in
    let is = first-standing old.slots t.number s step.0 at in
    subst (λ (b : State). OneClaim old b (Some t)) (sym step.1.3) (record {
      urls_are = urls-set old.slots t.number s (claimed s) at refl;
      unfilled_are = unfilled_claim old.slots t.number s at is;
      tickets = tickets_claim old.slots s t at is step.1.2;
    })

one_claim : (st : PageStanding) (old new : State) (o : Option Ticket) → ClaimsOf st old o new → OneClaim old new o
one_claim page.Underway old new o h = claims_one old new o h
one_claim (page.Finished outcome) old new o h = subst (λ (x : Option Ticket). OneClaim old new x) (sym h.0) (subst (λ (b : State). OneClaim old b None) (sym h.1) (no_claim old))
one_claim page.Broken old new o h = subst (λ (x : Option Ticket). OneClaim old new x) (sym h.0) (subst (λ (b : State). OneClaim old b None) (sym h.1) (no_claim old))

number_same : (old new : List Slot) → urls new ≡ urls old → (w : List ℕ) → number_of new w ≡ number_of old w
number_same old new same w = ap (λ (us : List (List ℕ)). position (λ u. bytes_eq u w) us) same

without_same : (old new : List Slot) → urls new ≡ urls old → (ws : List (List ℕ)) → without_slot ws new ≡ without_slot ws old
without_same old new same ws = ap (λ (us : List (List ℕ)). count_by (λ w. is_none (position (λ u. bytes_eq u w) us)) ws) same

module _ (table : List Answered) (h : Held) (p : Page) (ts : List Ticket) (b : State) (o : Option Ticket) (view : record { page = p; tickets = ts } ≡ h) (claims : ClaimsOf p.standing p.board o b) where
  own_claim : OneClaim p.board b o
  own_claim = one_claim p.standing p.board b o claims

  pub held_claim : (new : Page) (more : List Ticket) → new ≡ only_board p b → more ≡ ts ++ option_to_list o → log_of b ≡ log_of p.board → IsHeld table h → IsHeld table (record { page = new; tickets = more })
  held_claim new more new_is more_is log is = rw (new_is, more_is) (by_view (subst (IsHeld table) (sym view) is))
    where
      by_view : IsHeld table (record { page = p; tickets = ts }) → IsHeld table (record { page = only_board p b; tickets = ts ++ option_to_list o })
      by_view x = record {
        whole = x.whole;
        agrees = subst (λ (l : List Answered). Agrees l table) (sym log) x.agrees;
        own = ap is_some (number_same p.board.slots b.slots own_claim.urls_are p.url) ∙ x.own;
        tickets = own_claim.tickets ts x.tickets;
      }

  pub only_claim : (new : Page) → new ≡ only_board p b → log_of b ≡ log_of p.board → OnlyClaims table h.page new
  only_claim new new_is log = subst (λ (x : Held). OnlyClaims table x.page new) view (rw new_is (record {
    same = record { url = refl; request = refl; levels = refl };
    standing = refl;
    urls_are = own_claim.urls_are;
    log = log;
    left_is = ap (λ (n : ℕ). p.room + (n + without_slot (asked p.request table p.levels p.url) b.slots)) own_claim.unfilled_are
        ∙ ap (λ (n : ℕ). p.room + (unfilled p.board.slots + n)) (without_same p.board.slots b.slots own_claim.urls_are (asked p.request table p.levels p.url));
  }))

less_unclaimed : (slots : List Slot) (n : ℕ) (s : Slot) → slice_get slots n ≡ Some s → s.standing ≡ Unclaimed → suc (unclaimed (set slots n (claimed s))) ≡ unclaimed slots
less_unclaimed slots n s at is =
    let f : Slot → ℕ = λ (t : Slot). cond (is_unclaimed t.standing) 1 0 in
    let change : sum_by f (set slots n (claimed s)) + f (get_or slots n s) ≡ sum_by f slots + 0 = sum_by-set f slots n (claimed s) s (slice_get_within slots n s at) in
    let own : f (get_or slots n s) ≡ 1 = ap f (get_or_from_slice_get slots n s s at) ∙ ap (λ (t : Standing). cond (is_unclaimed t) 1 0) is in
    let sum : suc (sum_by f (set slots n (claimed s))) ≡ sum_by f slots = omega arith in
    sum

-- a claim that gives a ticket leaves one slot less unclaimed
pub given_claim : (st : PageStanding) (old new : State) (t : Ticket) → ClaimsOf st old (Some t) new → suc (unclaimed new.slots) ≡ unclaimed old.slots
given_claim page.Underway old new t step =
    subst (λ (b : State). suc (unclaimed b.slots) ≡ unclaimed old.slots) (sym step.1.3) (less_unclaimed old.slots t.number step.1.0 step.1.1 (first-standing old.slots t.number step.1.0 step.0 step.1.1))
given_claim (page.Finished outcome) old new t h = absurd (cc)
given_claim page.Broken old new t h = absurd (cc)

-- one that gives none leaves none unclaimed, while the page goes on
pub no_ticket : (st : PageStanding) (old new : State) → ClaimsOf st old None new → st ≡ page.Underway → first_unclaimed new.slots ≡ None
no_ticket page.Underway old new step e = ap (λ (b : State). first_unclaimed b.slots) step.1 ∙ step.0
no_ticket (page.Finished outcome) old new h e = absurd (cc)
no_ticket page.Broken old new h e = absurd (cc)

-- ---- post

-- what a post leaves of a page, where its slot was filled
pub record IsPosted (table : List Answered) (old : Page) (filled : State) (new : Page) : Type 0 where
  pub standing : new.standing ≡ old.standing
  pub url : new.url ≡ old.url
  pub request : new.request ≡ old.request
  pub levels : new.levels ≡ old.levels
  pub grows : Grows filled.slots new.board.slots
  pub weighs : (all : List (List ℕ)) → weight all (record { board = new.board; room = new.room }) ≤ weight all (record { board = filled; room = old.room })

opened_is : (table : List Answered) (old : Page) (filled : State) (o : Opening) → Grows filled.slots o.board.slots → ((all : List (List ℕ)) → weight all o ≤ weight all (record { board = filled; room = old.room })) → IsPosted table old filled (with_opening old o)
opened_is table old filled o grows weighs = record { standing = refl; url = refl; request = refl; levels = refl; grows = grows; weighs = weighs }

posted_by : (table : List Answered) (old : Page) (depth : ℕ) (answer : Answered) (filled : State) (b : Bool) (ws : List (List ℕ))
    → IsPosted table old filled (with_opening old (if b then opened (depth + 1) ws (record { board = filled; room = old.room }) else record { board = filled; room = old.room }))
posted_by table old depth answer filled true ws =
    let o : Opening = record { board = filled; room = old.room } in
    opened_is table old filled (opened (depth + 1) ws o) (opened_grows (depth + 1) ws o) (λ all. opened_weighs all (depth + 1) ws o)
posted_by table old depth answer filled false ws = opened_is table old filled (record { board = filled; room = old.room }) (grows_same filled.slots) (λ all. omega arith)

pub is_posted : (table : List Answered) (st : PageStanding) (old : Page) (receipt : Receipt) (depth : ℕ) (filled : State) (new : Page) → Posted st old receipt depth filled new → IsPosted table old filled new
is_posted table page.Underway old receipt depth filled new h = subst (IsPosted table old filled) (sym h) (posted_by table old depth receipt.answer filled (nat_lt depth old.levels) (ahead_of old.request receipt.answer))
is_posted table (page.Finished outcome) old receipt depth filled new h = subst (IsPosted table old filled) (sym h) (posted_by table old depth receipt.answer filled false [])
is_posted table page.Broken old receipt depth filled new h = absurd h

module _ (table : List Answered) (old new : Page) (ts : List Ticket) (place : ℕ) (t : Ticket) (there : slice_get ts place ≡ Some t) (takes : TakesIn old (receipt_of table t) new) (tickets : AreTickets old.board.slots ts) where
  slotted : Slotted old.board.slots t
  slotted = slot_of old.board.slots ts place t tickets there

  abbrev filled_slots : List Slot
  filled_slots = set old.board.slots t.number (filled_with (answered_by table t.url) takes.fills.0)

  own_standing : takes.fills.0.standing ≡ Claimed
  own_standing =
      let same : Some takes.fills.0 ≡ Some slotted.slot = sym takes.fills.1 ∙ slotted.there in
      let own : takes.fills.0 ≡ slotted.slot = cc in
      ap (λ (s : Slot). s.standing) own ∙ slotted.is_claimed

  filled_are : takes.filled.slots ≡ filled_slots
  filled_are = ap (λ (b : State). b.slots) takes.fills.2

  posted : IsPosted table old takes.filled new
  posted = is_posted table old.standing old (receipt_of table t) takes.fills.0.depth takes.filled new takes.posted

  urls_stay : urls takes.filled.slots ≡ urls old.board.slots
  urls_stay = ap urls filled_are ∙ urls-set old.board.slots t.number takes.fills.0 (filled_with (answered_by table t.url) takes.fills.0) takes.fills.1 refl

  tickets_posted : AreTickets new.board.slots (remove ts place)
  tickets_posted =
      tickets_grow takes.filled.slots new.board.slots posted.grows (remove ts place)
      (subst (λ (ss : List Slot). AreTickets ss (remove ts place)) (sym filled_are) (tickets_fill old.board.slots takes.fills.0 t (answered_by table t.url) ts place there takes.fills.1 tickets))

  pub less_left : left table new + 1 ≤ left table old
  unfolding weight
  less_left =
      let all = asked old.request table old.levels old.url in
      let weighs : new.room + (unfilled new.board.slots + without_slot all new.board.slots) ≤ old.room + (unfilled takes.filled.slots + without_slot all takes.filled.slots) = posted.weighs all in
      let same : without_slot all takes.filled.slots ≡ without_slot all old.board.slots = without_same old.board.slots takes.filled.slots urls_stay all in
      let less : unfilled takes.filled.slots + 1 ≡ unfilled old.board.slots =
      subst (λ (ss : List Slot). unfilled ss + 1 ≡ unfilled old.board.slots) (sym filled_are) (unfilled_fill old.board.slots t.number takes.fills.0 (answered_by table t.url) takes.fills.1 own_standing) in
      let sum : new.room + (unfilled new.board.slots + without_slot all new.board.slots) + 1 ≤ old.room + (unfilled old.board.slots + without_slot all old.board.slots) = omega arith in
      rw (posted.request, posted.levels, posted.url) sum

  held_post : log_of new.board ≡ log_of old.board ++ answered_by table t.url ∷ [] → IsHeld table (record { page = old; tickets = ts }) → IsHeld table (record { page = new; tickets = remove ts place })
  held_post log x = record {
    whole = λ e. x.whole (sym posted.standing ∙ e);
    agrees = subst (λ (l : List Answered). Agrees l table) (sym log) (All-push (λ (a : Answered). reply_of table a.url ≡ a.reply) (log_of old.board) (answered_by table t.url) x.agrees refl);
    own = ap (λ (u : List ℕ). is_some (number_of new.board.slots u)) posted.url ∙ some_stays (number_of old.board.slots old.url) (number_of new.board.slots old.url) number_stays x.own;
    tickets = tickets_posted;
  }
    where
      number_stays : (n : ℕ) → number_of old.board.slots old.url ≡ Some n → number_of new.board.slots old.url ≡ Some n
      number_stays n e = posted.grows.numbers old.url n (number_same old.board.slots takes.filled.slots urls_stay old.url ∙ e)

  same_post : IsSameBut old new
  same_post = record { url = posted.url; request = posted.request; levels = posted.levels }

-- a post of a ticket in hand is taken
pub fits : (table : List Answered) (h : Held) (place : ℕ) (t : Ticket) → IsHeld table h → slice_get h.tickets place ≡ Some t → fill_fault h.page.board.slots (receipt_of table t) ≡ None
fits table h place t is there = takes_receipt h.page.board.slots t table (slot_of h.page.board.slots h.tickets place t is.tickets there)

never_declined : (f : FillFault) (o : Option FillFault) → o ≡ None → o ≡ Some f → ⊥
never_declined f o none some = absurd (cc)

-- a post of a ticket in hand is refused for want of memory alone
pub never_refused : (table : List Answered) (h : Held) (p new : Page) (ts : List Ticket) (place : ℕ) (t : Ticket) (receipt : Receipt) (fault : PostFault) → record { page = p; tickets = ts } ≡ h → IsHeld table h → slice_get ts place ≡ Some t
    → receipt ≡ receipt_of table t → Refuses fault p receipt new → fault ≡ refusal.NoMemory
never_refused table h p new ts place t receipt fault view is there same h_refuses = by_fault fault (subst (λ (r : Receipt). Refuses fault p r new) same h_refuses)
  where
    held : IsHeld table (record { page = p; tickets = ts })
    held = subst (IsHeld table) (sym view) is

    none : fill_fault p.board.slots (receipt_of table t) ≡ None
    none = fits table (record { page = p; tickets = ts }) place t held there

    by_fault : (f : PostFault) → Refuses f p (receipt_of table t) new → f ≡ refusal.NoMemory
    by_fault (refusal.Stranger back) d = absurd (never_declined _ _ none d.is_fault)
    by_fault (refusal.NotClaimed back) d = absurd (never_declined _ _ none d.is_fault)
    by_fault (refusal.Filled back) d = absurd (never_declined _ _ none d.is_fault)
    by_fault refusal.NoMemory d = refl
    by_fault (refusal.Broken back) d = absurd (held.whole d.0)

pub held_posted : (table : List Answered) (h : Held) (new : Page) (more : List Ticket) (place : ℕ) (t : Ticket) → slice_get h.tickets place ≡ Some t → TakesIn h.page (receipt_of table t) new
    → log_of new.board ≡ log_of h.page.board ++ answered_by table t.url ∷ [] → more ≡ remove h.tickets place → IsHeld table h → IsHeld table (record { page = new; tickets = more })
held_posted table h new more place t there takes log more_is is =
    rw more_is (held_post table h.page new h.tickets place t there takes is.tickets log is)

past_none : (xs : List Ticket) (n : ℕ) → slice_get xs n ≡ None → length xs ≤ n
past_none [] n e = omega arith
past_none (x ∷ xs) zero e = absurd (cc)
past_none (x ∷ xs) (suc n) e = let less = past_none xs n e in omega arith

-- a post of the oldest ticket leaves one answer less to come
pub left_by_post : (table : List Answered) (old new : Held) → IsHeld table old → 0 < length old.tickets → IsPost table 0 (slice_get old.tickets 0) old new → (left table new.page < left table old.page) × IsSameBut old.page new.page
left_by_post table old new is some step = by_ticket (slice_get old.tickets 0) refl step
  where
    by_ticket : (o : Option Ticket) → slice_get old.tickets 0 ≡ o → IsPost table 0 o old new → (left table new.page < left table old.page) × IsSameBut old.page new.page
    by_ticket None e h = absurd (let within = past_none old.tickets 0 e in omega (arith, within))
    by_ticket (Some t) e h = (let less = less_left table old.page new.page old.tickets 0 t e h.0 is.tickets in omega (arith, less), same_post table old.page new.page old.tickets 0 t e h.0 is.tickets)

-- ---- advance

-- a slot that was opened, or is there already
opens_grow : (o : Option ℕ) (url : List ℕ) (depth : ℕ) (old new : State) (number : ℕ) → Opens o url depth old number new → Grows old.slots new.slots
opens_grow (Some n) url depth old new number step = subst (λ (b : State). Grows old.slots b.slots) (sym step.1) (grows_same old.slots)
opens_grow None url depth old new number step = subst (λ (b : State). Grows old.slots b.slots) (sym step.1) (grows_push old.slots url depth)

awaits_grow : (L : ℕ) (leg : Option Leg) (old new : State) → Awaits L leg old new → Grows old.slots new.slots
awaits_grow L None old new step = subst (λ (b : State). Grows old.slots b.slots) (sym step) (grows_same old.slots)
awaits_grow L (Some (Asks n w)) old new step = opens_grow (number_of old.slots w) w (L - n + 1) old new step.0 step.1
awaits_grow L (Some AsksNobody) old new step = absurd step

moves_grow : (s : told.State) (L : ℕ) (leg : Option Leg) (old new : State) → Moves s L leg old new → Grows old.slots new.slots
moves_grow (tells.Waiting url) L leg old new step = awaits_grow L leg old new step
moves_grow (tells.Done outcome) L leg old new step = subst (λ (b : State). Grows old.slots b.slots) (sym step) (grows_same old.slots)

not_broken : (s : told.State) → standing_after s ≡ page.Broken → ⊥
not_broken (tells.Waiting url) e = absurd (cc)
not_broken (tells.Done outcome) e = absurd (cc)

pub held_advance : (table : List Answered) (h : Held) (s : told.State) (new : Page) → Advances s h.page new → IsHeld table h → IsHeld table (record { page = new; tickets = h.tickets })
held_advance table h s new a x =
    let grows = moves_grow s h.page.levels (waits_at h.page.request (log_of h.page.board) h.page.levels h.page.url) h.page.board new.board a.moves in
    record {
      whole = λ e. not_broken s (sym a.stands ∙ e);
      agrees = subst (λ (l : List Answered). Agrees l table) (sym a.log) x.agrees;
      own = ap (λ (u : List ℕ). is_some (number_of new.board.slots u)) a.url ∙ some_stays (number_of h.page.board.slots h.page.url) (number_of new.board.slots h.page.url) (λ n e. grows.numbers h.page.url n e) x.own;
      tickets = tickets_grow h.page.board.slots new.board.slots grows h.tickets x.tickets;
    }

-- what an advance that waits leaves of the board: the URL has a slot, and no more answers may come than before
pub record IsAwaited (all : List (List ℕ)) (w : List ℕ) (old new : State) : Type 0 where
  pub number : ℕ
  pub there : number_of new.slots w ≡ Some number
  pub no_more : unfilled new.slots + without_slot all new.slots ≤ unfilled old.slots + without_slot all old.slots

awaited_same : (all : List (List ℕ)) (w : List ℕ) (b new : State) (n : ℕ) → number_of b.slots w ≡ Some n → new ≡ b → IsAwaited all w b new
awaited_same all w b new n e same = subst (IsAwaited all w b) (sym same) (record { number = n; there = e; no_more = omega arith })

awaited_push : (all : List (List ℕ)) (w : List ℕ) (b new : State) (depth : ℕ) → number_of b.slots w ≡ None → Contains all w → new ≡ with_slot w depth b → IsAwaited all w b new
awaited_push all w b new depth none among same = subst (IsAwaited all w b) (sym same) (record {
  number = length (urls b.slots);
  there = number_push b.slots w depth none;
  no_more =
      let more = unfilled_push b.slots w depth in
      let less = without_less b.slots (b.slots ++ fresh w depth ∷ []) (grows_push b.slots w depth) all w (length (urls b.slots)) among none (number_push b.slots w depth none) in
      omega arith;
})

awaited_opens : (all : List (List ℕ)) (w : List ℕ) (o : Option ℕ) (depth number : ℕ) (old new : State) → number_of old.slots w ≡ o → Contains all w → Opens o w depth old number new → IsAwaited all w old new
awaited_opens all w (Some n) depth number old new e among step = awaited_same all w old new n e step.1
awaited_opens all w None depth number old new e among step = awaited_push all w old new depth e among step.1

there_is : (o : Option ℕ) → IsSome o → (n : ℕ) × (o ≡ Some n)
there_is None h = absurd (cc)
there_is (Some n) h = (n, refl)

same_wait : (v w : List ℕ) → meaning.Waiting v ≡ meaning.Waiting w → v ≡ w
same_wait v w e = cc

module _ (table : List Answered) (old new : Page) (w : List ℕ) where
  abbrev pub all_asked : List (List ℕ)
  all_asked = asked old.request table old.levels old.url

  by_leg : (leg : Option Leg) → waits_at old.request (log_of old.board) old.levels old.url ≡ leg → state old.request (log_of old.board) old.levels old.url ≡ meaning.Waiting w → Contains all_asked w
      → ((w ≡ old.url) × (leg ≡ None)) ⊎ IsLegOf old.levels w leg → IsSome (number_of old.board.slots old.url) → Awaits old.levels leg old.board new.board → IsAwaited all_asked w old.board new.board
  by_leg None is waits among (inl own) some step =
      let at = there_is (number_of old.board.slots old.url) some in
      awaited_same all_asked w old.board new.board at.0 (ap (number_of old.board.slots) own.0 ∙ at.1) step
  by_leg None is waits among (inr leg) some step = let e = leg.asks in absurd (cc)
  by_leg (Some (Asks n v)) is waits among which some step =
      let same : v ≡ w = same_wait v w (sym (leg_is_waited_for old.request (log_of old.board) old.levels old.url (Asks n v) is) ∙ waits) in
      let there : Opens (number_of old.board.slots w) w (old.levels - n + 1) old.board step.0 new.board = subst (λ (x : List ℕ). Opens (number_of old.board.slots x) x (old.levels - n + 1) old.board step.0 new.board) same step.1 in
      awaited_opens all_asked w (number_of old.board.slots w) (old.levels - n + 1) step.0 old.board new.board refl among there
  by_leg (Some AsksNobody) is waits among which some step = absurd step

  pub awaited : Awaits old.levels (waits_at old.request (log_of old.board) old.levels old.url) old.board new.board → state old.request (log_of old.board) old.levels old.url ≡ meaning.Waiting w → Contains all_asked w
      → IsSome (number_of old.board.slots old.url) → IsAwaited all_asked w old.board new.board
  awaited step waits among some = by_leg (waits_at old.request (log_of old.board) old.levels old.url) refl waits among (waits_at_leg old.request (log_of old.board) old.levels old.url w waits) some step

-- ---- the steps, as the calls go about them

pub taken_out : (ts : List Ticket) (place : ℕ) (t u : Ticket) → place < length ts → u ≡ get_or ts place u → t ≡ u → slice_get ts place ≡ Some t
taken_out ts place t u within value same = slice_get-get_or ts place u within ∙ ap Some (sym value ∙ sym same)

pub receipt_is : (table : List Answered) (t : Ticket) (r : Receipt) (a : Answered) (url : List ℕ) → r ≡ record { number = t.number; answer = a } → a ≡ answered_by table url → a.url ≡ t.url → r ≡ receipt_of table t
receipt_is table t r a url is answer named =
    let same : url ≡ t.url = sym (ap (λ (x : Answered). x.url) answer) ∙ named in
    is ∙ ap (λ (x : Answered). record { number = t.number; answer = x }) (answer ∙ ap (answered_by table) same)

pub posts : (table : List Answered) (h : Held) (p new : Page) (ts more : List Ticket) (place : ℕ) (t : Ticket) (r : Receipt) → record { page = p; tickets = ts } ≡ h → slice_get ts place ≡ Some t → r ≡ receipt_of table t → TakesIn p r new → more ≡ remove ts place
    → IsPost table place (slice_get h.tickets place) h (record { page = new; tickets = more })
posts table h p new ts more place t r view there same takes more_is =
    subst (λ (x : Held). IsPost table place (slice_get x.tickets place) x (record { page = new; tickets = more })) view
    (subst (λ (o : Option Ticket). IsPost table place o (record { page = p; tickets = ts }) (record { page = new; tickets = more })) (sym there) (subst (λ (x : Receipt). TakesIn p x new) same takes, more_is))

pub posts_held : (table : List Answered) (h : Held) (p new : Page) (ts more : List Ticket) (place : ℕ) (t : Ticket) (r : Receipt) → record { page = p; tickets = ts } ≡ h → slice_get ts place ≡ Some t → r ≡ receipt_of table t → TakesIn p r new
    → log_of new.board ≡ log_of p.board ++ r.answer ∷ [] → more ≡ remove ts place → IsHeld table h → IsHeld table (record { page = new; tickets = more })
posts_held table h p new ts more place t r view there same takes log more_is is =
    held_posted table (record { page = p; tickets = ts }) new more place t there (subst (λ (x : Receipt). TakesIn p x new) same takes)
    (log ∙ ap (λ (x : Receipt). log_of p.board ++ x.answer ∷ []) same) more_is (subst (IsHeld table) (sym view) is)

pub advanced : (table : List Answered) (h : Held) (p : Page) (ts : List Ticket) (new : Page) → record { page = p; tickets = ts } ≡ h → log_of new.board ≡ log_of p.board → IsHeld table h → Agrees (log_of new.board) table
advanced table h p ts new view log is = subst (λ (l : List Answered). Agrees l table) (sym log) (subst (IsHeld table) (sym view) is).agrees

pub held_there : (table : List Answered) (h : Held) (p : Page) (ts : List Ticket) (new : Page) (s : told.State) → record { page = p; tickets = ts } ≡ h → state new.request (log_of new.board) new.levels new.url ≡ told_state s → new.standing ≡ standing_after s
    → log_of new.board ≡ log_of p.board → new.url ≡ p.url → new.request ≡ p.request → new.levels ≡ p.levels → new.room ≡ p.room
    → Moves s p.levels (waits_at p.request (log_of p.board) p.levels p.url) p.board new.board → IsHeld table h → IsHeld table (record { page = new; tickets = ts })
held_there table h p ts new s view tells stands log url request levels room moves is =
    held_advance table (record { page = p; tickets = ts }) s new
    (record {
      is_state = sym tells ∙ rw (request, log, levels, url) refl;
      stands = stands;
      moves = moves;
      log = log;
      url = url;
      request = request;
      levels = levels;
      room = room;
    }) (subst (IsHeld table) (sym view) is)

-- ---- one round: an advance that waits, all claims, a post

missing_of : (table : List Answered) (p : Page) (s : told.State) (w : List ℕ) → told_state s ≡ meaning.Waiting w → IsTrueOver (log_of p.board) table p.request p.levels p.url (told_state s)
    → (answer_of (log_of p.board) w ≡ None) × Contains (asked p.request table p.levels p.url) w
missing_of table p s w waits h = subst (λ (x : meaning.State). IsTrueOver (log_of p.board) table p.request p.levels p.url x) waits h

moves_await : (s : told.State) (w : List ℕ) (L : ℕ) (leg : Option Leg) (old new : State) → told_state s ≡ meaning.Waiting w → Moves s L leg old new → Awaits L leg old new
moves_await (tells.Waiting url) w L leg old new waits moves = moves
moves_await (tells.Done outcome) w L leg old new waits moves = absurd (cc)

pub waited : (table : List Answered) (old : Held) (a : Page) (s : told.State) (w : List ℕ) → told_state s ≡ meaning.Waiting w → Advances s old.page a → IsHeld table old
    → IsTrueOver (log_of a.board) table a.request a.levels a.url (told_state s) → IsAwaited (asked old.page.request table old.page.levels old.page.url) w old.page.board a.board
waited table old a s w waits adv is true_over =
    let among : Contains (asked old.page.request table old.page.levels old.page.url) w = rw (← adv.request, ← adv.levels, ← adv.url) (missing_of table a s w waits true_over).1 in
    awaited table old.page a w (moves_await s w old.page.levels (waits_at old.page.request (log_of old.page.board) old.page.levels old.page.url) old.page.board a.board waits adv.moves) (sym adv.is_state ∙ waits) among is.own

pub round_tickets : (table : List Answered) (old : Held) (a b : Page) (ts : List Ticket) (s : told.State) (w : List ℕ) → told_state s ≡ meaning.Waiting w → Advances s old.page a → IsHeld table old
    → IsTrueOver (log_of a.board) table a.request a.levels a.url (told_state s) → OnlyClaims table a b → first_unclaimed b.board.slots ≡ None → IsBoard b.board → AreTickets b.board.slots ts → 0 < length ts
round_tickets table old a b ts s w waits adv is true_over only none sound tickets =
    let aw = waited table old a s w waits adv is true_over in
    let there : number_of b.board.slots w ≡ Some aw.number = number_same a.board.slots b.board.slots only.urls_are w ∙ aw.there in
    let slot = slot_of_number b.board.slots w aw.number there in
    let missing : answer_of (log_of b.board) w ≡ None = ap (λ (l : List Answered). answer_of l w) only.log ∙ (missing_of table a s w waits true_over).0 in
    let empty : answer_at b.board.slots aw.number ≡ None = ap (option_and_then (answer_at b.board.slots)) (sym there) ∙ sym (log-answers b.board sound w) ∙ missing in
    let own : answer_in slot.0.standing ≡ None = ap (option_and_then (λ (x : Slot). answer_in x.standing)) (sym slot.1) ∙ empty in
    some_ticket b.board.slots ts aw.number slot.0 tickets slot.1 (all_claimed b.board.slots aw.number slot.0 none slot.1 own)

pub round_left : (table : List Answered) (old : Held) (a b : Page) (new : Held) (ts : List Ticket) (s : told.State) (w : List ℕ) → told_state s ≡ meaning.Waiting w → Advances s old.page a → IsHeld table old
    → IsTrueOver (log_of a.board) table a.request a.levels a.url (told_state s) → OnlyClaims table a b → (left table new.page < left table b) × IsSameBut b new.page
    → (left table new.page < left table old.page) × IsSameBut old.page new.page
round_left table old a b new ts s w waits adv is true_over only less =
    let aw = waited table old a s w waits adv is true_over in
    let all = asked old.page.request table old.page.levels old.page.url in
    let after : left table a ≡ old.page.room + (unfilled a.board.slots + without_slot all a.board.slots) = rw (adv.request, adv.levels, adv.url, adv.room) refl in
    let no_more : unfilled a.board.slots + without_slot all a.board.slots ≤ unfilled old.page.board.slots + without_slot all old.page.board.slots = aw.no_more in
    let claims : left table b ≡ left table a = only.left_is in
    let last : left table new.page < left table b = less.0 in (
      omega arith,
      record {
        url = less.1.url ∙ only.same.url ∙ adv.url;
        request = less.1.request ∙ only.same.request ∙ adv.request;
        levels = less.1.levels ∙ only.same.levels ∙ adv.levels;
      },
    )

pub only_same : (table : List Answered) (p : Page) → OnlyClaims table p p
only_same table p = record { same = record { url = refl; request = refl; levels = refl }; standing = refl; urls_are = refl; log = refl; left_is = refl }

pub only_on : (table : List Answered) (a b c : Page) → OnlyClaims table a b → OnlyClaims table b c → OnlyClaims table a c
only_on table a b c x y = record {
  same = record { url = y.same.url ∙ x.same.url; request = y.same.request ∙ x.same.request; levels = y.same.levels ∙ x.same.levels };
  standing = y.standing ∙ x.standing;
  urls_are = y.urls_are ∙ x.urls_are;
  log = y.log ∙ x.log;
  left_is = y.left_is ∙ x.left_is;
}

still_underway : (table : List Answered) (old a b : Page) (s : told.State) (url : List ℕ) → s ≡ tells.Waiting url → Advances s old a → OnlyClaims table a b → b.standing ≡ page.Underway
still_underway table old a b s url is adv only = only.standing ∙ adv.stands ∙ ap standing_after is

pub round_less : (table : List Answered) (old mid new : Held) (a inner : Page) (ts : List Ticket) (s : told.State) (url : List ℕ) → s ≡ tells.Waiting url → Advances s old.page a → IsHeld table old
    → IsTrueOver (log_of a.board) table a.request a.levels a.url (told_state s) → OnlyClaims table a mid.page → ClaimsOne false a mid.page → IsHeld table mid → record { page = inner; tickets = ts } ≡ mid → IsBoard inner.board
    → IsPost table 0 (slice_get mid.tickets 0) mid new → (left table new.page < left table old.page) × IsSameBut old.page new.page
round_less table old mid new a inner ts s url is adv held true_over only all mid_held view sound post =
    let waits : told_state s ≡ meaning.Waiting url = ap told_state is in
    let board_sound : IsBoard mid.page.board = subst (λ (h : Held). IsBoard h.page.board) view sound in
    let none = all (still_underway table old.page a mid.page s url is adv only) in
    let some = round_tickets table old a mid.page mid.tickets s url waits adv held true_over only none board_sound mid_held.tickets in
    round_left table old a mid.page new mid.tickets s url waits adv held true_over only (left_by_post table mid new mid_held some post)
