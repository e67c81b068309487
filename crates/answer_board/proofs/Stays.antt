-- What a board tells, it tells after one call more.
use Rattle.std.proofs.Common.{◌≡◌, ℕ, ◌==◌, Bool, true, false, List, [], ◌∷◌, ◌++◌, bytes_eq, position, slice_get, Option, Some, None, is_some, option_and_then, refl, sym, ◌∙◌, ap, subst}
use Rattle.std.proofs.Math.ListN.{set}
use Rattle.std.proofs.lemmas.Bool.{eqb-true, eqb-false}
use Rattle.std.proofs.lemmas.List.{map-append}
use Rattle.edge_types.specs.Answered.{Answered}
use Rattle.edge_types.proofs.TableLemmas.{position-push_kept}
use Rattle.answer_board.specs.Board.{State, Slot, Receipt, Ticket, fresh, claimed, filled_with, urls, number_of, answer_in, answer_at, with_slot, Opens, Claims, Fills, fill_fault, KeepsFilled}
use Rattle.answer_board.specs.Laws.{HasSlot, Stays, SlotsStay}
use Rattle.answer_board.specs.Runs.{Opened, OpenRefused, TookTicket, TookReceipt, ReceiptRefused}
use Rattle.answer_board.proofs.Log.{slot_of_answer}
use Rattle.answer_board.proofs.Slots.{slice_get-set_same, slice_get-set_other, slice_get-push_kept, urls-set}
use Rattle.answer_board.proofs.Steps.{keeps-open, keeps-claim, keeps-fill}

-- a slot that is filled stays as it is, so its answer stays
pub answer_at-keeps : (old new : State) → KeepsFilled old new → (n : ℕ) (answer : Answered) → answer_at old.slots n ≡ Some answer → answer_at new.slots n ≡ Some answer
answer_at-keeps old new keeps n answer at =
    let slot = slot_of_answer old.slots n answer at in
    ap (option_and_then (λ (s : Slot). answer_in s.standing)) (keeps n slot.0 slot.1 (ap is_some slot.2)) ∙ slot.2

stays-same : (b : State) → Stays b b
stays-same b = record { numbers = λ url n e. e; slots = λ n url depth has. has; answers = λ n answer at. at }

-- a change of one slot that leaves its URL and its depth
stays-set : (old : State) (filled : List ℕ) (n : ℕ) (x y : Slot) → slice_get old.slots n ≡ Some x → y.url ≡ x.url → y.depth ≡ x.depth → KeepsFilled old (record { slots = set old.slots n y; filled = filled }) → Stays old (record { slots = set old.slots n y; filled = filled })
stays-set old filled n x y at url_is depth_is keeps = record {
  numbers = λ url k e. ap (position (λ u. bytes_eq u url)) (urls-set old.slots n x y at url_is) ∙ e;
  slots = λ k url depth has. slots_by k url depth has (k == n) refl;
  answers = answer_at-keeps old (record { slots = set old.slots n y; filled = filled }) keeps;
}
  where
    new : State
    new = record { slots = set old.slots n y; filled = filled }

    slots_by : (k : ℕ) (url : List ℕ) (depth : ℕ) → HasSlot old k url depth → (b : Bool) → (k == n) ≡ b → HasSlot new k url depth
    slots_by k url depth has true is =
        let same : k ≡ n = eqb-true k n is in
        let there : Some has.0 ≡ Some x = sym has.1 ∙ ap (slice_get old.slots) same ∙ at in
        let own : has.0 ≡ x = cc in
        (y, ap (slice_get (set old.slots n y)) same ∙ slice_get-set_same old.slots n x y at, url_is ∙ ap (λ (s : Slot). s.url) (sym own) ∙ has.2, depth_is ∙ ap (λ (s : Slot). s.depth) (sym own) ∙ has.3)
    slots_by k url depth has false is = (has.0, slice_get-set_other old.slots n k y (eqb-false k n is) ∙ has.1, has.2, has.3)

stays-open : (old new : State) (o : Option ℕ) (url : List ℕ) (depth number : ℕ) → Opens o url depth old number new → Stays old new
stays-open old new (Some at) url depth number step = subst (Stays old) (sym step.1) (stays-same old)
stays-open old new None url depth number step = subst (Stays old) (sym step.1) (record {
  numbers = λ u n e. ap (position (λ v. bytes_eq v u)) (map-append (λ (s : Slot). s.url) old.slots (fresh url depth ∷ [])) ∙ position-push_kept (λ v. bytes_eq v u) (urls old.slots) url n e;
  slots = λ n u d has. (has.0, slice_get-push_kept old.slots n has.0 (fresh url depth) has.1, has.2, has.3);
  answers = answer_at-keeps old (with_slot url depth old) (keeps-open old (with_slot url depth old) None url depth number (step.0, refl));
})

stays-claim : (old new : State) (o : Option Ticket) → Claims old o new → Stays old new
stays-claim old new None step = subst (Stays old) (sym step.1) (stays-same old)
stays-claim old new (Some ticket) step =
    let s = step.1.0 in
    subst (Stays old) (sym step.1.3) (stays-set old old.filled ticket.number s (claimed s) step.1.1 refl refl (keeps-claim old _ (Some ticket) (step.0, (s, step.1.1, step.1.2, refl))))

stays-fill : (old new : State) (receipt : Receipt) → fill_fault old.slots receipt ≡ None → Fills old receipt new → Stays old new
stays-fill old new receipt none step =
    let s = step.0 in
    subst (Stays old) (sym step.2) (stays-set old (old.filled ++ receipt.number ∷ []) receipt.number s (filled_with receipt.answer s) step.1 refl refl (keeps-fill old _ receipt none (s, step.1, refl)))

pub slots-stay : SlotsStay
slots-stay old new (Opened url depth number) step = stays-open old new (number_of old.slots url) url depth number step
slots-stay old new (OpenRefused url depth) step = subst (Stays old) (sym step) (stays-same old)
slots-stay old new (TookTicket ticket) step = stays-claim old new ticket step
slots-stay old new (TookReceipt receipt) step = stays-fill old new receipt step.0 step.1
slots-stay old new (ReceiptRefused receipt fault) step = subst (Stays old) (sym step.1) (stays-same old)
