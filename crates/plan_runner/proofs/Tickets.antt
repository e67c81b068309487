-- In hand is one ticket for each claimed slot: how calls keep that, and what follows from it.
use Rattle.std.proofs.Common.{◌≡◌, ℕ, zero, suc, ◌+◌, ◌≤◌, ◌<◌, ◌==◌, Bool, true, false, cond, bytes_eq, List, [], ◌∷◌, ◌++◌, remove, length, slice_get, get_or, Some, None, refl, sym, ◌∙◌, ap, subst, arith, count_by}
use Rattle.std.specs.List.{sum_by}
use Rattle.std.proofs.Math.ListN.{set}
use Rattle.std.proofs.lemmas.Bool.{eqb-true, eqb-false, eq-eqb, cond-true}
use Rattle.std.proofs.lemmas.List.Sums.{sum_by_push, sum_by-remove, get_or-le-sum_by, count_by-le-length}
use Rattle.std.proofs.lemmas.Option.{slice_get_within, get_or_from_slice_get}
use Rattle.std.proofs.lemmas.Slice.Eq.{bytes_eq-Decides}
use Rattle.edge_types.specs.Answered.{Answered}
use Rattle.edge_types.proofs.TableLemmas.{fails}
use Rattle.answer_board.specs.Board.{Slot, Standing, Unclaimed, Claimed, Filled, Ticket, claimed, filled_with, answer_in, is_unclaimed, first_unclaimed, fault_at, fault_in, fill_fault}
use Rattle.answer_board.specs.Sound.{one_if}
use Rattle.answer_board.proofs.Slots.{slice_get-set_same, slice_get-set_other}
use Rattle.plan_runner.specs.Events.{receipt_of}
use Rattle.plan_runner.specs.Holding.{is_claimed, is_claimed_slot, is_claimed_at, IsNamed, AreNamed, AreTickets}
use Rattle.plan_runner.proofs.Growing.{Grows}

named_move : (old new : List Slot) → ((t : Ticket) → IsNamed old t → IsNamed new t) → (ts : List Ticket) → AreNamed old ts → AreNamed new ts
named_move old new f [] h = tt
named_move old new f (t ∷ ts) h = (f t h.0, named_move old new f ts h.1)

named_push : (slots : List Slot) (ts : List Ticket) (t : Ticket) → AreNamed slots ts → IsNamed slots t → AreNamed slots (ts ++ t ∷ [])
named_push slots [] t h is = (is, tt)
named_push slots (x ∷ ts) t h is = (h.0, named_push slots ts t h.1 is)

named_remove : (slots : List Slot) (ts : List Ticket) (k : ℕ) → AreNamed slots ts → AreNamed slots (remove ts k)
named_remove slots [] zero h = tt
named_remove slots [] (suc k) h = tt
named_remove slots (t ∷ ts) zero h = h.1
named_remove slots (t ∷ ts) (suc k) h = (h.0, named_remove slots ts k h.1)

named_at : (slots : List Slot) (ts : List Ticket) (k : ℕ) (t : Ticket) → AreNamed slots ts → slice_get ts k ≡ Some t → IsNamed slots t
named_at slots [] k t h e = absurd (cc)
named_at slots (x ∷ ts) zero t h e = let same : x ≡ t = cc in subst (IsNamed slots) same h.0
named_at slots (x ∷ ts) (suc k) t h e = named_at slots ts k t h.1 e

pub tickets_grow : (old new : List Slot) → Grows old new → (ts : List Ticket) → AreTickets old ts → AreTickets new ts
tickets_grow old new g ts h = record {
  named = named_move old new (λ t is. record { slot = is.slot; there = g.kept t.number is.slot is.there; named = is.named }) ts h.named;
  counted = λ n. h.counted n ∙ ap one_if (sym (g.claimed n));
}

-- ---- a change of one slot that keeps its URL

module _ (slots : List Slot) (n : ℕ) (x y : Slot) (at : slice_get slots n ≡ Some x) where
  named_set : y.url ≡ x.url → (t : Ticket) → IsNamed slots t → IsNamed (set slots n y) t
  named_set url t is = by_test (t.number == n) refl
    where
      by_test : (b : Bool) → (t.number == n) ≡ b → IsNamed (set slots n y) t
      by_test true e =
          let same : t.number ≡ n = eqb-true t.number n e in
          let there : Some is.slot ≡ Some x = sym is.there ∙ ap (slice_get slots) same ∙ at in
          let own : is.slot ≡ x = cc in
          record { slot = y; there = ap (slice_get (set slots n y)) same ∙ slice_get-set_same slots n x y at; named = is.named ∙ ap (λ (s : Slot). s.url) own ∙ sym url }
      by_test false e = record { slot = is.slot; there = slice_get-set_other slots n t.number y (eqb-false t.number n e) ∙ is.there; named = is.named }

  claimed_there : (k : ℕ) → n ≡ k → is_claimed_at (set slots n y) k ≡ is_claimed y.standing
  claimed_there k same = ap is_claimed_slot (ap (slice_get (set slots n y)) (sym same) ∙ slice_get-set_same slots n x y at)

  claimed_before : (k : ℕ) → n ≡ k → is_claimed_at slots k ≡ is_claimed x.standing
  claimed_before k same = ap is_claimed_slot (ap (slice_get slots) (sym same) ∙ at)

  claimed_elsewhere : (k : ℕ) → (n ≡ k → ⊥) → is_claimed_at (set slots n y) k ≡ is_claimed_at slots k
  claimed_elsewhere k other = ap is_claimed_slot (slice_get-set_other slots n k y (λ e. other (sym e)))

one_of : Ticket → ℕ → ℕ
one_of t k = cond (t.number == k) 1 0

pub tickets_claim : (slots : List Slot) (s : Slot) (t : Ticket) → slice_get slots t.number ≡ Some s → s.standing ≡ Unclaimed → t.url ≡ s.url → (ts : List Ticket) → AreTickets slots ts → AreTickets (set slots t.number (claimed s)) (ts ++ t ∷ [])
tickets_claim slots s t at is url ts h = record {
  named =
      named_push new ts t (named_move slots new (named_set slots t.number s (claimed s) at refl) ts h.named)
      (record { slot = claimed s; there = slice_get-set_same slots t.number s (claimed s) at; named = url });
  counted = λ k. by_test k (t.number == k) refl;
}
  where
    new : List Slot
    new = set slots t.number (claimed s)

    by_test : (k : ℕ) (b : Bool) → (t.number == k) ≡ b → count_by (λ (x : Ticket). x.number == k) (ts ++ t ∷ []) ≡ one_if (is_claimed_at new k)
    by_test k true e =
        let same : t.number ≡ k = eqb-true t.number k e in
        let push : count_by (λ (x : Ticket). x.number == k) (ts ++ t ∷ []) ≡ count_by (λ (x : Ticket). x.number == k) ts + cond (t.number == k) 1 0 = sum_by_push (λ (x : Ticket). cond (x.number == k) 1 0) ts t in
        let one : ◌≡◌ {A = ℕ} (cond (t.number == k) 1 0) 1 = ap (λ (b : Bool). cond b 1 0) e in
        let none : count_by (λ (x : Ticket). x.number == k) ts ≡ 0 = h.counted k ∙ ap one_if (claimed_before slots t.number s (claimed s) at k same ∙ ap is_claimed is) in
        let total : count_by (λ (x : Ticket). x.number == k) (ts ++ t ∷ []) ≡ 1 = omega arith in
        total ∙ sym (ap one_if (claimed_there slots t.number s (claimed s) at k same))
    by_test k false e =
        let other : t.number ≡ k → ⊥ = eqb-false t.number k e in
        let push : count_by (λ (x : Ticket). x.number == k) (ts ++ t ∷ []) ≡ count_by (λ (x : Ticket). x.number == k) ts + cond (t.number == k) 1 0 = sum_by_push (λ (x : Ticket). cond (x.number == k) 1 0) ts t in
        let none : ◌≡◌ {A = ℕ} (cond (t.number == k) 1 0) 0 = ap (λ (b : Bool). cond b 1 0) e in
        let total : count_by (λ (x : Ticket). x.number == k) (ts ++ t ∷ []) ≡ count_by (λ (x : Ticket). x.number == k) ts = omega arith in
        total ∙ h.counted k ∙ sym (ap one_if (claimed_elsewhere slots t.number s (claimed s) at k other))

at_most_one : (b : Bool) → one_if b ≤ 1
at_most_one true = omega arith
at_most_one false = omega arith

pub tickets_fill : (slots : List Slot) (s : Slot) (t : Ticket) (answer : Answered) (ts : List Ticket) (place : ℕ) → slice_get ts place ≡ Some t → slice_get slots t.number ≡ Some s → AreTickets slots ts
    → AreTickets (set slots t.number (filled_with answer s)) (remove ts place)
tickets_fill slots s t answer ts place there at h = record {
  named = named_remove new ts place (named_move slots new (named_set slots t.number s y at refl) ts h.named);
  counted = λ k. by_test k (t.number == k) refl;
}
  where
    y : Slot
    y = filled_with answer s

    new : List Slot
    new = set slots t.number y

    less : (k : ℕ) → count_by (λ (x : Ticket). x.number == k) (remove ts place) + cond (t.number == k) 1 0 ≡ count_by (λ (x : Ticket). x.number == k) ts
    less k =
        let within : place < length ts = slice_get_within ts place t there in
        let f : Ticket → ℕ = λ (x : Ticket). cond (x.number == k) 1 0 in
        let sum : sum_by f (remove ts place) + f (get_or ts place t) ≡ sum_by f ts = sum_by-remove f ts place t within in
        let own : f (get_or ts place t) ≡ f t = ap f (get_or_from_slice_get ts place t t there) in
        let total : sum_by f (remove ts place) + f t ≡ sum_by f ts = omega arith in
        total

    by_test : (k : ℕ) (b : Bool) → (t.number == k) ≡ b → count_by (λ (x : Ticket). x.number == k) (remove ts place) ≡ one_if (is_claimed_at new k)
    by_test k true e =
        let same : t.number ≡ k = eqb-true t.number k e in
        let sum = less k in
        let one : ◌≡◌ {A = ℕ} (cond (t.number == k) 1 0) 1 = ap (λ (b : Bool). cond b 1 0) e in
        let counted = h.counted k in
        let most = at_most_one (is_claimed_at slots k) in
        let total : count_by (λ (x : Ticket). x.number == k) (remove ts place) ≡ 0 = omega arith in
        total ∙ sym (ap one_if (claimed_there slots t.number s y at k same))
    by_test k false e =
        let other : t.number ≡ k → ⊥ = eqb-false t.number k e in
        let sum = less k in
        let none : ◌≡◌ {A = ℕ} (cond (t.number == k) 1 0) 0 = ap (λ (b : Bool). cond b 1 0) e in
        let total : count_by (λ (x : Ticket). x.number == k) (remove ts place) ≡ count_by (λ (x : Ticket). x.number == k) ts = omega arith in
        total ∙ h.counted k ∙ sym (ap one_if (claimed_elsewhere slots t.number s y at k other))

-- ---- what follows

is_Claimed : (t : Standing) → is_claimed t ≡ true → t ≡ Claimed
is_Claimed Unclaimed h = absurd (cc)
is_Claimed Claimed h = refl
is_Claimed (Filled answer) h = absurd (cc)

one_is_true : (b : Bool) → 1 ≤ one_if b → b ≡ true
one_is_true true h = refl
one_is_true false h = absurd (omega (arith, h))

-- the slot of a ticket in hand
pub record Slotted (slots : List Slot) (t : Ticket) : Type 0 where
  pub slot : Slot
  pub there : slice_get slots t.number ≡ Some slot
  pub named : t.url ≡ slot.url
  pub is_claimed : slot.standing ≡ Claimed

pub slot_of : (slots : List Slot) (ts : List Ticket) (place : ℕ) (t : Ticket) → AreTickets slots ts → slice_get ts place ≡ Some t → Slotted slots t
slot_of slots ts place t h there =
    let is = named_at slots ts place t h.named there in
    let within : place < length ts = slice_get_within ts place t there in
    let f : Ticket → ℕ = λ (x : Ticket). cond (x.number == t.number) 1 0 in
    let own : f (get_or ts place t) ≡ 1 = ap f (get_or_from_slice_get ts place t t there) ∙ ap (λ (b : Bool). cond b 1 0) (eq-eqb t.number t.number refl) in
    let some : f (get_or ts place t) ≤ count_by (λ (x : Ticket). x.number == t.number) ts = get_or-le-sum_by f ts place t within in
    let counted = h.counted t.number in
    let yes : is_claimed_at slots t.number ≡ true = one_is_true (is_claimed_at slots t.number) (omega arith) in
    record { slot = is.slot; there = is.there; named = is.named; is_claimed = is_Claimed is.slot.standing (sym (ap is_claimed_slot is.there) ∙ yes) }

-- the board takes the receipt of a ticket in hand
pub takes_receipt : (slots : List Slot) (t : Ticket) (table : List Answered) → Slotted slots t → fill_fault slots (receipt_of table t) ≡ None
takes_receipt slots t table s =
    ap (fault_in t.url) s.there ∙ cond-true (bytes_eq s.slot.url t.url) (fault_at s.slot.standing) _ ((bytes_eq-Decides s.slot.url t.url).1 (sym s.named)) ∙ ap fault_at s.is_claimed

-- a claimed slot has its ticket in hand
pub some_ticket : (slots : List Slot) (ts : List Ticket) (n : ℕ) (s : Slot) → AreTickets slots ts → slice_get slots n ≡ Some s → s.standing ≡ Claimed → 0 < length ts
some_ticket slots ts n s h at is =
    let one : count_by (λ (x : Ticket). x.number == n) ts ≡ 1 = h.counted n ∙ ap one_if (ap is_claimed_slot at ∙ ap is_claimed is) in
    let few = count_by-le-length (λ (x : Ticket). x.number == n) ts in
    omega arith

-- a slot that isn't filled is claimed, where none is unclaimed
pub all_claimed : (slots : List Slot) (n : ℕ) (s : Slot) → first_unclaimed slots ≡ None → slice_get slots n ≡ Some s → answer_in s.standing ≡ None → s.standing ≡ Claimed
all_claimed slots n s none at empty = by_standing s.standing empty not_unclaimed
  where
    not_unclaimed : is_unclaimed s.standing ≡ false
    not_unclaimed =
        ap (λ (x : Slot). is_unclaimed x.standing) (sym (get_or_from_slice_get slots n s s at)) ∙ fails (λ (x : Slot). is_unclaimed x.standing) slots none n s (slice_get_within slots n s at)

    by_standing : (t : Standing) → answer_in t ≡ None → is_unclaimed t ≡ false → t ≡ Claimed
    by_standing Unclaimed e un = absurd (cc)
    by_standing Claimed e un = refl
    by_standing (Filled answer) e un = absurd (cc)
