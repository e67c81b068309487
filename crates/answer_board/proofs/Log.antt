-- The log of a board as a table: what it answers of a URL stands in the slot of that URL.
use Rattle.std.proofs.Common.{◌≡◌, ◌≢◌, ℕ, ◌+◌, ◌<◌, ◌≤◌, ◌==◌, Bool, true, false, cond, bytes_eq, find, List, [], ◌∷◌, length, slice_get, get_or, All, AllPairs, Option, Some, None, is_some, option_map, option_and_then, refl, sym, ◌∙◌, ap, subst, arith, filter_map, zero-add}
use Rattle.std.proofs.lemmas.Bool.{eqb-true, eqb-false, eq-eqb}
use Rattle.std.proofs.lemmas.List.{length-map}
use Rattle.std.proofs.lemmas.List.Elements.{All-cons}
use Rattle.std.proofs.lemmas.List.Kept.{AllPairs-cons}
use Rattle.std.proofs.lemmas.List.Quantifiers.{position-Some}
use Rattle.std.proofs.lemmas.List.Sums.{sum_by-append}
use Rattle.std.proofs.lemmas.Option.{slice_get_within, get_or_from_slice_get, slice_get-get_or, slice_get-map}
use Rattle.std.proofs.lemmas.Slice.Eq.{bytes_eq-Decides}
use Rattle.std.specs.List.{count_by, cons_option}
use Rattle.edge_types.specs.Answered.{Answered}
use Rattle.edge_types.specs.Table.{is_of, answer_of, IsTable}
use Rattle.edge_types.proofs.TableLemmas.{position-is}
use Rattle.answer_board.specs.Board.{State, Slot, Receipt, fresh, urls, number_of, answer_in, answer_at, fill_fault, log_of}
use Rattle.answer_board.specs.Laws.{LogIsLookedUp}
use Rattle.answer_board.specs.Sound.{IsBoard, one_if}
use Rattle.answer_board.proofs.Slots.{Takes, taking}

-- ---- lists

-- what is found is what one of these gives
pub find-given : {X Y : Type 0} (p : Y → Bool) (f : X → Option Y) (xs : List X) (y : Y) → find p (filter_map f xs) ≡ Some y → (x : X) × (f x ≡ Some y) × (p y ≡ true)
find-given p f [] y e = absurd (cc)
find-given {X} {Y} p f (x ∷ xs) y e = by_given (λ found. find-given p f xs y found) (f x) refl
  where
    Later : Type 0
    Later = find p (filter_map f xs) ≡ Some y → (w : X) × (f w ≡ Some y) × (p y ≡ true)

    by_test : Later → (z : Y) (b : Bool) → f x ≡ Some z → p z ≡ b → cond b (Some z) (find p (filter_map f xs)) ≡ Some y → (w : X) × (f w ≡ Some y) × (p y ≡ true)
    by_test later z true is passes found = let same : z ≡ y = cc in (x, is ∙ ap Some same, ap p (sym same) ∙ passes)
    by_test later z false is passes found = later found

    by_given : Later → (o : Option Y) → f x ≡ o → (w : X) × (f w ≡ Some y) × (p y ≡ true)
    by_given later None is = later (sym (ap (λ (o : Option Y). find p (cons_option o (filter_map f xs))) is) ∙ e)
    by_given later (Some z) is =
        by_test later z (p z) is refl (sym (ap (λ (o : Option Y). find p (cons_option o (filter_map f xs))) is) ∙ e)

-- something is found where one of these gives what passes
pub find-gives : {Y : Type 0} (p : Y → Bool) (f : ℕ → Option Y) (xs : List ℕ) (n : ℕ) (y : Y) → f n ≡ Some y → p y ≡ true → count_by (λ m. m == n) xs ≡ 1 → find p (filter_map f xs) ≢ None
find-gives p f [] n y is passes one none = absurd (cc)
find-gives {Y} p f (x ∷ xs) n y is passes one none = by_number (λ rest_one rest_none. find-gives p f xs n y is passes rest_one rest_none) (x == n) refl
  where
    all : count_by (λ m. m == n) (x ∷ xs) ≡ count_by (λ m. m == n) (x ∷ []) + count_by (λ m. m == n) xs
    all = sum_by-append (λ m. cond (m == n) 1 0) (x ∷ []) xs

    own : (b : Bool) → (x == n) ≡ b → count_by (λ m. m == n) (x ∷ []) ≡ cond b 1 0
    own b same = zero-add (cond (x == n) 1 0) ∙ ap (λ (t : Bool). cond t 1 0) same

    given : (o : Option Y) → f x ≡ o → find p (cons_option o (filter_map f xs)) ≡ None
    given o e = sym (ap (λ (t : Option Y). find p (cons_option t (filter_map f xs))) e) ∙ none

    no_test : (b : Bool) (z : Y) → cond b (Some z) (find p (filter_map f xs)) ≡ None → find p (filter_map f xs) ≡ None
    no_test true z e = absurd (cc)
    no_test false z e = e

    rest : (o : Option Y) → f x ≡ o → find p (filter_map f xs) ≡ None
    rest None e = given None e
    rest (Some z) e = no_test (p z) z (given (Some z) e)

    by_number : (count_by (λ m. m == n) xs ≡ 1 → find p (filter_map f xs) ≡ None → ⊥) → (b : Bool) → (x == n) ≡ b → ⊥
    by_number later true same =
        let here : f x ≡ Some y = ap f (eqb-true x n same) ∙ is in
        let found : cond (p y) (Some y) (find p (filter_map f xs)) ≡ None = given (Some y) here in
        let sure : cond true (Some y) (find p (filter_map f xs)) ≡ None = rw passes at found in
        absurd (cc)
    by_number later false same =
        let zero : count_by (λ m. m == n) (x ∷ []) ≡ 0 = own false same in
        let sum = all in
        later (omega arith) (rest (f x) refl)

-- ---- slots

-- the slot that has this answer
pub slot_of_answer : (slots : List Slot) (n : ℕ) (answer : Answered) → answer_at slots n ≡ Some answer → (s : Slot) × (slice_get slots n ≡ Some s) × (answer_in s.standing ≡ Some answer)
slot_of_answer slots n answer e = by_slot (slice_get slots n) refl
  where
    at : (o : Option Slot) → slice_get slots n ≡ o → option_and_then (λ (s : Slot). answer_in s.standing) o ≡ Some answer
    at o is = sym (ap (option_and_then (λ (s : Slot). answer_in s.standing)) is) ∙ e

    by_slot : (o : Option Slot) → slice_get slots n ≡ o → (s : Slot) × (slice_get slots n ≡ Some s) × (answer_in s.standing ≡ Some answer)
    by_slot None is = let none = at None is in absurd (cc)
    by_slot (Some s) is = (s, is, at (Some s) is)

url_at : (slots : List Slot) (n : ℕ) (s : Slot) → slice_get slots n ≡ Some s → slice_get (urls slots) n ≡ Some s.url
url_at slots n s at = slice_get-map (λ (t : Slot). t.url) slots n ∙ ap (option_map (λ (t : Slot). t.url)) at

-- a slot's URL has that slot's number
pub number_of-slot : (slots : List Slot) (n : ℕ) (s : Slot) → AllPairs (λ earlier later. earlier ≢ later) (urls slots) → slice_get slots n ≡ Some s → number_of slots s.url ≡ Some n
number_of-slot slots n s distinct at =
    position-is (λ u. bytes_eq u s.url) (urls slots) n s.url within
    ((bytes_eq-Decides (get_or (urls slots) n s.url) s.url).1 own)
    (λ k before. differs k before (bytes_eq (get_or (urls slots) k s.url) s.url) refl)
  where
    within : n < length (urls slots)
    within = slice_get_within (urls slots) n s.url (url_at slots n s at)

    own : get_or (urls slots) n s.url ≡ s.url
    own = get_or_from_slice_get (urls slots) n s.url s.url (url_at slots n s at)

    differs : (k : ℕ) → k < n → (b : Bool) → bytes_eq (get_or (urls slots) k s.url) s.url ≡ b → bytes_eq (get_or (urls slots) k s.url) s.url ≡ false
    differs k before true same = absurd (distinct k n s.url before within ((bytes_eq-Decides (get_or (urls slots) k s.url) s.url).0 same ∙ sym own))
    differs k before false same = same

-- the slot of a URL's number has that URL
pub slot_of_number : (slots : List Slot) (url : List ℕ) (n : ℕ) → number_of slots url ≡ Some n → (s : Slot) × (slice_get slots n ≡ Some s) × (s.url ≡ url)
slot_of_number slots url n e = (s, at, (bytes_eq-Decides s.url url).0 (ap (λ (u : List ℕ). bytes_eq u url) (sym own) ∙ there.1))
  where
    there : (n < length (urls slots)) × (bytes_eq (get_or (urls slots) n url) url ≡ true) × ((k : ℕ) → k < n → bytes_eq (get_or (urls slots) k url) url ≡ false)
    there = position-Some (λ (u : List ℕ). bytes_eq u url) (urls slots) n url e

    within : n < length slots
    within = let below : n < length (urls slots) = there.0 in omega (arith, length-map slots (λ (t : Slot). t.url))

    s : Slot
    s = get_or slots n (fresh url 0)

    at : slice_get slots n ≡ Some s
    at = slice_get-get_or slots n (fresh url 0) within

    own : get_or (urls slots) n url ≡ s.url
    own = get_or_from_slice_get (urls slots) n s.url url (url_at slots n s at)

-- ---- the log

-- what stands in the slot of a URL
abbrev in_slot : State → List ℕ → Option Answered
in_slot b url = option_and_then (answer_at b.slots) (number_of b.slots url)

pub log-answers : (b : State) → IsBoard b → (url : List ℕ) → answer_of (log_of b) url ≡ option_and_then (answer_at b.slots) (number_of b.slots url)
log-answers b sound url = by_found (answer_of (log_of b) url) refl
  where
    in_slot_at : (o : Option ℕ) → number_of b.slots url ≡ o → in_slot b url ≡ option_and_then (answer_at b.slots) o
    in_slot_at o e = ap (option_and_then (answer_at b.slots)) e

    here : (n : ℕ) (answer : Answered) → answer_at b.slots n ≡ Some answer → is_of url answer ≡ true → in_slot b url ≡ Some answer
    here n answer at is =
        let slot = slot_of_answer b.slots n answer at in
        let named : slot.0.url ≡ url = sym (sound.named n slot.0 answer slot.1 slot.2) ∙ (bytes_eq-Decides answer.url url).0 is in
        in_slot_at (Some n) (subst (λ (u : List ℕ). number_of b.slots u ≡ Some n) named (number_of-slot b.slots n slot.0 sound.distinct slot.1)) ∙ at

    logged : (n : ℕ) (answer : Answered) → number_of b.slots url ≡ Some n → answer_at b.slots n ≡ Some answer → answer_of (log_of b) url ≢ None
    logged n answer number at =
        let slot = slot_of_answer b.slots n answer at in
        let own = slot_of_number b.slots url n number in
        let same : Some slot.0 ≡ Some own.0 = sym slot.1 ∙ own.1 in
        let one : slot.0 ≡ own.0 = cc in
        let named : answer.url ≡ url = sound.named n slot.0 answer slot.1 slot.2 ∙ ap (λ (s : Slot). s.url) one ∙ own.2 in
        find-gives (is_of url) (answer_at b.slots) b.filled n answer at ((bytes_eq-Decides answer.url url).1 named) (sound.once n ∙ ap (λ (o : Option Answered). one_if (is_some o)) at)

    by_answer : (n : ℕ) → number_of b.slots url ≡ Some n → answer_of (log_of b) url ≡ None → (o : Option Answered) → answer_at b.slots n ≡ o → in_slot b url ≡ None
    by_answer n number none None at = in_slot_at (Some n) number ∙ at
    by_answer n number none (Some answer) at = absurd (logged n answer number at none)

    by_number : answer_of (log_of b) url ≡ None → (o : Option ℕ) → number_of b.slots url ≡ o → in_slot b url ≡ None
    by_number none None number = in_slot_at None number
    by_number none (Some n) number = by_answer n number none (answer_at b.slots n) refl

    by_found : (o : Option Answered) → answer_of (log_of b) url ≡ o → answer_of (log_of b) url ≡ in_slot b url
    by_found None is = is ∙ sym (by_number is (number_of b.slots url) refl)
    by_found (Some answer) is =
        let given = find-given (is_of url) (answer_at b.slots) b.filled answer is in
        is ∙ sym (here given.0 answer given.1 given.2)

-- ---- no URL twice

counted : (x n : ℕ) (xs : List ℕ) → count_by (λ m. m == n) (x ∷ xs) ≡ cond (x == n) 1 0 + count_by (λ m. m == n) xs
counted x n xs = sum_by-append (λ m. cond (m == n) 1 0) (x ∷ []) xs ∙ ap (λ (k : ℕ). k + count_by (λ m. m == n) xs) (zero-add (cond (x == n) 1 0))

module _ (f : ℕ → Option Answered) (one : (m n : ℕ) (a c : Answered) → f m ≡ Some a → f n ≡ Some c → a.url ≡ c.url → m ≡ n) where
  -- the answers of other numbers are of other URLs
  others : (n : ℕ) (a : Answered) → f n ≡ Some a → (xs : List ℕ) → count_by (λ m. m == n) xs ≡ 0 → All (λ (c : Answered). a.url ≢ c.url) (filter_map f xs)
  others n a at [] none = λ k d within. absurd (let past : k < 0 = within in omega arith)
  others n a at (x ∷ xs) none = by_number (λ rest. others n a at xs rest) (x == n) refl
    where
      Rest : Type 0
      Rest = count_by (λ m. m == n) xs ≡ 0 → All (λ (c : Answered). a.url ≢ c.url) (filter_map f xs)

      by_given : x ≢ n → All (λ (c : Answered). a.url ≢ c.url) (filter_map f xs) → (o : Option Answered) → f x ≡ o → All (λ (c : Answered). a.url ≢ c.url) (cons_option o (filter_map f xs))
      by_given other rest None is = rest
      by_given other rest (Some c) is = All-cons (λ (e : Answered). a.url ≢ e.url) c (filter_map f xs) (λ same. other (sym (one n x a c at is same))) rest

      by_number : Rest → (b : Bool) → (x == n) ≡ b → All (λ (c : Answered). a.url ≢ c.url) (filter_map f (x ∷ xs))
      by_number rest true same =
          let sum : count_by (λ m. m == n) (x ∷ xs) ≡ 1 + count_by (λ m. m == n) xs = counted x n xs ∙ ap (λ (b : Bool). cond b 1 0 + count_by (λ m. m == n) xs) same in
          absurd (omega arith)
      by_number rest false same =
          let sum : count_by (λ m. m == n) (x ∷ xs) ≡ 0 + count_by (λ m. m == n) xs = counted x n xs ∙ ap (λ (b : Bool). cond b 1 0 + count_by (λ m. m == n) xs) same in
          by_given (eqb-false x n same) (rest (omega arith)) (f x) refl

  table_of : (xs : List ℕ) → ((n : ℕ) → count_by (λ m. m == n) xs ≤ 1) → IsTable (filter_map f xs)
  table_of [] few = λ i j d before within. absurd (let past : j < 0 = within in omega arith)
  table_of (x ∷ xs) few = by_given (λ rest. table_of xs rest) (f x) refl
    where
      fewer : (n : ℕ) → count_by (λ m. m == n) xs ≤ 1
      fewer n = let sum = counted x n xs in let most : count_by (λ m. m == n) (x ∷ xs) ≤ 1 = few n in omega arith

      none : count_by (λ m. m == x) xs ≡ 0
      none =
          let sum : count_by (λ m. m == x) (x ∷ xs) ≡ 1 + count_by (λ m. m == x) xs = counted x x xs ∙ ap (λ (b : Bool). cond b 1 0 + count_by (λ m. m == x) xs) (eq-eqb x x refl) in
          let most : count_by (λ m. m == x) (x ∷ xs) ≤ 1 = few x in
          omega arith

      by_given : (((n : ℕ) → count_by (λ m. m == n) xs ≤ 1) → IsTable (filter_map f xs)) → (o : Option Answered) → f x ≡ o → IsTable (cons_option o (filter_map f xs))
      by_given rest None is = rest fewer
      by_given rest (Some a) is = AllPairs-cons (λ (earlier later : Answered). earlier.url ≢ later.url) a (filter_map f xs) (others x a is xs none) (rest fewer)

log-once : (b : State) → IsBoard b → IsTable (log_of b)
log-once b sound = table_of (answer_at b.slots) one b.filled (λ n. few n (is_some (answer_at b.slots n)) refl)
  where
    one : (m n : ℕ) (a c : Answered) → answer_at b.slots m ≡ Some a → answer_at b.slots n ≡ Some c → a.url ≡ c.url → m ≡ n
    one m n a c at there same =
        let s = slot_of_answer b.slots m a at in
        let t = slot_of_answer b.slots n c there in
        let urls_same : s.0.url ≡ t.0.url = sym (sound.named m s.0 a s.1 s.2) ∙ same ∙ sound.named n t.0 c t.1 t.2 in
        let number : Some m ≡ Some n = sym (number_of-slot b.slots m s.0 sound.distinct s.1) ∙ ap (number_of b.slots) urls_same ∙ number_of-slot b.slots n t.0 sound.distinct t.1 in
        cc

    few : (n : ℕ) (o : Bool) → is_some (answer_at b.slots n) ≡ o → count_by (λ m. m == n) b.filled ≤ 1
    few n true is = let count : count_by (λ m. m == n) b.filled ≡ 1 = sound.once n ∙ ap one_if is in omega arith
    few n false is = let count : count_by (λ m. m == n) b.filled ≡ 0 = sound.once n ∙ ap one_if is in omega arith

-- a slot that takes a receipt is of a URL that isn't logged
log-fresh : (b : State) (receipt : Receipt) → IsBoard b → fill_fault b.slots receipt ≡ None → answer_of (log_of b) receipt.answer.url ≡ None
log-fresh b receipt sound none =
    let slot = taking b.slots receipt none in
    let takes : Takes slot.0 receipt = slot.2 in
    let number : number_of b.slots receipt.answer.url ≡ Some receipt.number = ap (number_of b.slots) takes.named ∙ number_of-slot b.slots receipt.number slot.0 sound.distinct slot.1 in
    let empty : answer_at b.slots receipt.number ≡ None = ap (option_and_then (λ (s : Slot). answer_in s.standing)) slot.1 ∙ ap answer_in takes.is_claimed in
    log-answers b sound receipt.answer.url ∙ ap (option_and_then (answer_at b.slots)) number ∙ empty

pub log-is-looked-up : LogIsLookedUp
log-is-looked-up b sound = record { once = log-once b sound; answers = log-answers b sound; fresh = λ receipt none. log-fresh b receipt sound none }
