-- What slots keep when others are opened behind them, and how many answers may then still come.
use Rattle.std.proofs.Common.{◌≡◌, ℕ, zero, suc, ◌+◌, ◌≤◌, Bool, true, false, cond, not, bytes_eq, List, [], ◌∷◌, ◌++◌, remove, length, position, slice_get, get_or, Contains, Option, Some, None, is_none, is_some, refl, ◌∙◌, ap, arith}
use Rattle.std.specs.List.{sum_by}
use Rattle.std.proofs.lemmas.List.{map-append}
use Rattle.std.proofs.lemmas.List.Sums.{sum_by-append, sum_by-remove, sum_by-le-sum_by}
use Rattle.edge_types.proofs.TableLemmas.{position-push_kept, position-push_found}
use Rattle.std.proofs.lemmas.Slice.Eq.{bytes_eq-Decides}
use Rattle.answer_board.specs.Board.{State, Slot, fresh, urls, number_of, answer_in}
use Rattle.answer_board.specs.Sound.{one_if, unfilled}
use Rattle.plan_runner.specs.Ahead.{Opening, with_room, with_url, opened}
use Rattle.plan_runner.specs.Holding.{is_claimed_at, without_slot}

pub record Grows (old new : List Slot) : Type 0 where
  pub kept : (n : ℕ) (s : Slot) → slice_get old n ≡ Some s → slice_get new n ≡ Some s
  pub claimed : (n : ℕ) → is_claimed_at new n ≡ is_claimed_at old n
  pub numbers : (url : List ℕ) (n : ℕ) → number_of old url ≡ Some n → number_of new url ≡ Some n

pub grows_same : (slots : List Slot) → Grows slots slots
grows_same slots = record { kept = λ n s e. e; claimed = λ n. refl; numbers = λ url n e. e }

pub grows_on : (a b c : List Slot) → Grows a b → Grows b c → Grows a c
grows_on a b c g h = record {
  kept = λ n s e. h.kept n s (g.kept n s e);
  claimed = λ n. h.claimed n ∙ g.claimed n;
  numbers = λ url n e. h.numbers url n (g.numbers url n e);
}

-- ---- one slot more

kept_push : (slots : List Slot) (url : List ℕ) (depth n : ℕ) (s : Slot) → slice_get slots n ≡ Some s → slice_get (slots ++ fresh url depth ∷ []) n ≡ Some s
kept_push [] url depth n s e = absurd (cc)
kept_push (x ∷ slots) url depth zero s e = e
kept_push (x ∷ slots) url depth (suc n) s e = kept_push slots url depth n s e

claimed_push : (slots : List Slot) (url : List ℕ) (depth n : ℕ) → is_claimed_at (slots ++ fresh url depth ∷ []) n ≡ is_claimed_at slots n
claimed_push [] url depth zero = refl
claimed_push [] url depth (suc n) = refl
claimed_push (s ∷ slots) url depth zero = refl
claimed_push (s ∷ slots) url depth (suc n) = claimed_push slots url depth n

urls_push : (slots : List Slot) (url : List ℕ) (depth : ℕ) → urls (slots ++ fresh url depth ∷ []) ≡ urls slots ++ url ∷ []
urls_push slots url depth = map-append (λ (s : Slot). s.url) slots (fresh url depth ∷ [])

numbers_push : (slots : List Slot) (url : List ℕ) (depth : ℕ) (w : List ℕ) (n : ℕ) → number_of slots w ≡ Some n → number_of (slots ++ fresh url depth ∷ []) w ≡ Some n
numbers_push slots url depth w n e = ap (position (λ v. bytes_eq v w)) (urls_push slots url depth) ∙ position-push_kept (λ v. bytes_eq v w) (urls slots) url n e

-- the new slot is found by its URL
pub number_push : (slots : List Slot) (url : List ℕ) (depth : ℕ) → number_of slots url ≡ None → number_of (slots ++ fresh url depth ∷ []) url ≡ Some (length (urls slots))
number_push slots url depth none =
    ap (position (λ v. bytes_eq v url)) (urls_push slots url depth) ∙ position-push_found (λ v. bytes_eq v url) (urls slots) url none ((bytes_eq-Decides url url).1 refl)

pub grows_push : (slots : List Slot) (url : List ℕ) (depth : ℕ) → Grows slots (slots ++ fresh url depth ∷ [])
grows_push slots url depth = record { kept = kept_push slots url depth; claimed = claimed_push slots url depth; numbers = numbers_push slots url depth }

pub unfilled_push : (slots : List Slot) (url : List ℕ) (depth : ℕ) → unfilled (slots ++ fresh url depth ∷ []) ≡ unfilled slots + 1
unfilled_push slots url depth =
    let more : unfilled (slots ++ fresh url depth ∷ []) ≡ unfilled slots + unfilled (fresh url depth ∷ []) = sum_by-append (λ (s : Slot). one_if (not (is_some (answer_in s.standing)))) slots (fresh url depth ∷ []) in
    let one : unfilled (fresh url depth ∷ []) ≡ 1 = refl in
    omega arith

-- ---- URLs without a slot

module _ (old new : List Slot) (g : Grows old new) where
  lacks : List Slot → List ℕ → ℕ
  lacks slots w = cond (is_none (number_of slots w)) 1 0

  le_by : (w : List ℕ) (o : Option ℕ) → number_of old w ≡ o → cond (is_none (number_of new w)) 1 0 ≤ cond (is_none (number_of old w)) 1 0
  le_by w None e = rw e (at_most (is_none (number_of new w)))
    where
      at_most : (b : Bool) → cond b 1 0 ≤ 1
      at_most true = omega arith
      at_most false = omega arith
  le_by w (Some n) e = rw (e, g.numbers w n e) (omega arith)

  pub without_le : (ws : List (List ℕ)) → without_slot ws new ≤ without_slot ws old
  without_le ws = sum_by-le-sum_by (λ w. cond (is_none (number_of new w)) 1 0) (λ w. cond (is_none (number_of old w)) 1 0) ws (λ w. le_by w (number_of old w) refl)

  -- one less, where one of them had no slot and has one
  pub without_less : (ws : List (List ℕ)) (w : List ℕ) (n : ℕ) → Contains ws w → number_of old w ≡ None → number_of new w ≡ Some n → without_slot ws new + 1 ≤ without_slot ws old
  without_less ws w n among none some =
      let k = among.0 in
      let f : List ℕ → ℕ = λ v. cond (is_none (number_of new v)) 1 0 in
      let h : List ℕ → ℕ = λ v. cond (is_none (number_of old v)) 1 0 in
      let here : get_or ws k w ≡ w = among.2 in
      let after : sum_by f (remove ws k) + f (get_or ws k w) ≡ sum_by f ws = sum_by-remove f ws k w among.1 in
      let before : sum_by h (remove ws k) + h (get_or ws k w) ≡ sum_by h ws = sum_by-remove h ws k w among.1 in
      let zero_then : f (get_or ws k w) ≡ 0 = ap f here ∙ ap (λ (o : Option ℕ). cond (is_none o) 1 0) some in
      let one_before : h (get_or ws k w) ≡ 1 = ap h here ∙ ap (λ (o : Option ℕ). cond (is_none o) 1 0) none in
      let rest : sum_by f (remove ws k) ≤ sum_by h (remove ws k) = without_le (remove ws k) in
      let sum : sum_by f ws + 1 ≤ sum_by h ws = omega arith in
      sum

-- ---- slots that are opened ahead

opens_one : (depth : ℕ) (w : List ℕ) (o : Opening) (found : Option ℕ) → Grows o.board.slots (with_url found depth w o).board.slots
opens_one depth w o (Some n) = grows_same o.board.slots
opens_one depth w o None = by_room o.room
  where
    by_room : (room : ℕ) → Grows o.board.slots (with_room room depth w o.board).board.slots
    by_room zero = grows_same o.board.slots
    by_room (suc n) = grows_push o.board.slots w depth

pub opened_grows : (depth : ℕ) (ws : List (List ℕ)) (o : Opening) → Grows o.board.slots (opened depth ws o).board.slots
opened_grows depth [] o = grows_same o.board.slots
opened_grows depth (w ∷ ws) o =
    let next = with_url (number_of o.board.slots w) depth w o in
    grows_on o.board.slots next.board.slots (opened depth ws next).board.slots (opens_one depth w o (number_of o.board.slots w)) (opened_grows depth ws next)

-- the room, the open slots, and the URLs without a slot
unfoldable pub weight : List (List ℕ) → Opening → ℕ
weight all o = o.room + (unfilled o.board.slots + without_slot all o.board.slots)

weighs_room : (all : List (List ℕ)) (depth : ℕ) (w : List ℕ) (b : State) (room : ℕ) → weight all (with_room room depth w b) ≤ weight all (record { board = b; room = room })
unfolding weight
weighs_room all depth w b zero = omega arith
weighs_room all depth w b (suc n) =
    let more = unfilled_push b.slots w depth in
    let fewer = without_le b.slots (b.slots ++ fresh w depth ∷ []) (grows_push b.slots w depth) all in
    omega arith

weighs_one : (all : List (List ℕ)) (depth : ℕ) (w : List ℕ) (o : Opening) (found : Option ℕ) → weight all (with_url found depth w o) ≤ weight all o
weighs_one all depth w o (Some n) = omega arith
weighs_one all depth w o None = weighs_room all depth w o.board o.room

pub opened_weighs : (all : List (List ℕ)) (depth : ℕ) (ws : List (List ℕ)) (o : Opening) → weight all (opened depth ws o) ≤ weight all o
opened_weighs all depth [] o = omega arith
opened_weighs all depth (w ∷ ws) o =
    let next = with_url (number_of o.board.slots w) depth w o in
    let later = opened_weighs all depth ws next in
    let one = weighs_one all depth w o (number_of o.board.slots w) in
    omega arith
