-- What holds of a page's board when slots are opened, claimed and filled.
use Rattle.std.proofs.Common.{◌≡◌, ◌≢◌, slice_index_or, bytes_eq, position, ℕ, zero, suc, ◌+◌, ◌<◌, ◌≤◌, nat_lt, Bool, true, false, List, [], ◌∷◌, ◌++◌, length, length-append, Option, Some, None, is_some, IsSome, if◌then◌else◌, refl, sym, ◌∙◌, ap, subst, arith}
use Rattle.std.proofs.lemmas.List.{map-append, length-map}
use Rattle.std.proofs.lemmas.List.Elements.{Contains-append_left}
use Rattle.std.proofs.lemmas.Slice.Eq.{bytes_eq-Decides}
use Rattle.std.specs.List.{AllByRecursion, Any, Contains}
use Rattle.edge_types.specs.declared.request.Request.{Request}
use Rattle.edge_types.specs.Answered.{Answered}
use Rattle.edge_types.specs.Table.{is_of, answer_of, reply_of, IsTable, Agrees}
use Rattle.edge_types.proofs.TableLemmas.{position-none, position-push_kept, position-push_found, position-push_other}
use Rattle.esi_meaning.specs.declared.limits.TheConstants.{MAX_LEGS}
use Rattle.esi_meaning.specs.Ahead.{ahead_of, LeadsTo, MayFollow, IsLegal}
use Rattle.esi_meaning.specs.Meaning.{asked}
use Rattle.esi_meaning.specs.State.{Waiting, state}
use Rattle.esi_meaning.proofs.AskedLemmas.{any_contained}
use Rattle.esi_meaning.proofs.LawLemmas.{asks_few}
use Rattle.esi_meaning.proofs.LegLemmas.{all_mapped}
use Rattle.esi_meaning.proofs.LegalLaws.{legal_grows, waited_for_follows, ahead_follows}
use Rattle.esi_meaning.proofs.StateLaws.{waits_for_asked}
use Rattle.esi_meaning.proofs.StateLemmas.{agrees_itself}
use Rattle.answer_board.specs.Board.{State, Slot, Receipt, Ticket, fresh, claimed, filled_with, urls, number_of, with_slot, Opens, Claims, Fills, fill_fault, log_of}
use Rattle.answer_board.specs.Sound.{IsBoard}
use Rattle.answer_board.proofs.Log.{number_of-slot, log-is-looked-up}
use Rattle.answer_board.proofs.Slots.{Takes, taking, urls-set}
use Rattle.answer_board.proofs.Steps.{log-open}
use Rattle.plan_machine.proofs.Growth.{found_in_more}
use Rattle.plan_runner.specs.Ahead.{Opening, with_url, opened, opened_by}
use Rattle.plan_runner.specs.Board.{IsWhole}
use Rattle.plan_runner.proofs.Counting.{no_more}

-- ---- lists

front_at : (xs ys : List Answered) (k : ℕ) (d : Answered) → k < length xs → slice_index_or (xs ++ ys) k d ≡ slice_index_or xs k d
front_at [] ys k d within = absurd (omega arith)
front_at (x ∷ xs) ys zero d within = refl
front_at (x ∷ xs) ys (suc k) d within = front_at xs ys k d (omega arith)

-- a table that agrees with a log agrees with its front
pub agrees_front : (log more table : List Answered) → Agrees (log ++ more) table → Agrees log table
agrees_front log more table agrees k d within =
    let below : k < length (log ++ more) = omega (arith, length-append log more) in
    subst (λ (a : Answered). reply_of table a.url ≡ a.reply) (front_at log more k d within) (agrees k d below)

any_grows : (r : Request) (w : List ℕ) (log more : List Answered) → Any (LeadsTo r w) log → Any (LeadsTo r w) (log ++ more)
any_grows r w log more (k, x, within, is, leads) = any_contained (LeadsTo r w) (log ++ more) x (Contains-append_left log more x (k, within, is)) leads

-- ---- numbers

number_push : (b : State) (w : List ℕ) (depth : ℕ) (v : List ℕ) (n : ℕ) → number_of b.slots v ≡ Some n → number_of (with_slot w depth b).slots v ≡ Some n
number_push b w depth v n e = ap (position (λ x. bytes_eq x v)) (map-append (λ (s : Slot). s.url) b.slots (fresh w depth ∷ [])) ∙ position-push_kept (λ x. bytes_eq x v) (urls b.slots) w n e

number_other : (b : State) (w : List ℕ) (depth : ℕ) (v : List ℕ) → bytes_eq w v ≡ false → number_of (with_slot w depth b).slots v ≡ number_of b.slots v
number_other b w depth v e = ap (position (λ x. bytes_eq x v)) (map-append (λ (s : Slot). s.url) b.slots (fresh w depth ∷ [])) ∙ position-push_other (λ x. bytes_eq x v) (urls b.slots) w e

pub number_new : (b : State) (w : List ℕ) (depth : ℕ) → number_of b.slots w ≡ None → IsSome (number_of (with_slot w depth b).slots w)
number_new b w depth none =
    ap is_some
    (ap (position (λ x. bytes_eq x w)) (map-append (λ (s : Slot). s.url) b.slots (fresh w depth ∷ []))
    ∙ position-push_found (λ x. bytes_eq x w) (urls b.slots) w none ((bytes_eq-Decides w w).1 refl))

same_number : (b c : State) → urls c.slots ≡ urls b.slots → (v : List ℕ) → number_of c.slots v ≡ number_of b.slots v
same_number b c same v = ap (position (λ x. bytes_eq x v)) same

some_on : (f g : List ℕ → Option ℕ) → ((v : List ℕ) (n : ℕ) → f v ≡ Some n → g v ≡ Some n) → (w : List ℕ) (o : Option ℕ) → f w ≡ o → IsSome (f w) → IsSome (g w)
some_on f g keep w None e some = let none : is_some (f w) ≡ false = ap is_some e in absurd (cc)
some_on f g keep w (Some n) e some = ap is_some (keep w n e)

all_slotted : (b c : State) → ((v : List ℕ) (n : ℕ) → number_of b.slots v ≡ Some n → number_of c.slots v ≡ Some n) → (ws : List (List ℕ)) → AllByRecursion (λ w. IsSome (number_of b.slots w)) ws
    → AllByRecursion (λ w. IsSome (number_of c.slots w)) ws
all_slotted b c keep ws all = all_mapped (λ (w : List ℕ). IsSome (number_of b.slots w)) (λ (w : List ℕ). IsSome (number_of c.slots w)) (λ w some. some_on (number_of b.slots) (number_of c.slots) keep w (number_of b.slots w) refl some) ws all

-- a URL without a slot is none of those that have one
new_apart : (b : State) (w : List ℕ) → number_of b.slots w ≡ None → (ws : List (List ℕ)) → AllByRecursion (λ v. IsSome (number_of b.slots v)) ws → AllByRecursion (λ v. v ≢ w) ws
new_apart b w none ws all =
    all_mapped (λ (v : List ℕ). IsSome (number_of b.slots v)) (λ (v : List ℕ). v ≢ w)
    (λ v some same. let no : is_some (number_of b.slots v) ≡ false = ap is_some (ap (number_of b.slots) same ∙ none) in absurd (cc)) ws all

length_urls : (b c : State) → urls c.slots ≡ urls b.slots → length c.slots ≡ length b.slots
length_urls b c same = sym (length-map c.slots (λ (s : Slot). s.url)) ∙ ap length same ∙ length-map b.slots (λ (s : Slot). s.url)

length_push : (b : State) (w : List ℕ) (depth : ℕ) → length (with_slot w depth b).slots ≡ length b.slots + 1
length_push b w depth = length-append b.slots (fresh w depth ∷ [])

log_push : (b : State) (w : List ℕ) (depth : ℕ) → log_of (with_slot w depth b) ≡ log_of b
log_push b w depth = log-open b (with_slot w depth b) None w depth (length b.slots) (refl, refl)

-- ---- claims and fills leave the URLs

pub claim_urls : (b c : State) (ticket : Option Ticket) → Claims b ticket c → urls c.slots ≡ urls b.slots
claim_urls b c None step = ap (λ (x : State). urls x.slots) step.1
claim_urls b c (Some ticket) step = ap (λ (x : State). urls x.slots) step.1.3 ∙ urls-set b.slots ticket.number step.1.0 (claimed step.1.0) step.1.1 refl

pub fill_urls : (b c : State) (receipt : Receipt) → Fills b receipt c → urls c.slots ≡ urls b.slots
fill_urls b c receipt step = ap (λ (x : State). urls x.slots) step.2 ∙ urls-set b.slots receipt.number step.0 (filled_with receipt.answer step.0) step.1 refl

module _ (r : Request) (L : ℕ) (u : List ℕ) (ahead : ℕ) where
  -- ---- the same URLs

  pub whole_same : (room : ℕ) (b c : State) → urls c.slots ≡ urls b.slots → log_of c ≡ log_of b → IsWhole r L u ahead room b → IsWhole r L u ahead room c
  whole_same room b c same log h = record {
    own = same_number b c same u ∙ h.own;
    follows = λ n w at none. subst (λ (l : List Answered). MayFollow r u l w) (sym log) (h.follows n w (sym (same_number b c same w) ∙ at) (ap (λ (l : List Answered). answer_of l w) (sym log) ∙ none));
    waited = h.waited;
    apart = h.apart;
    slotted = all_slotted b c (λ v n e. same_number b c same v ∙ e) h.waited h.slotted;
    are_asked = λ table agrees. h.are_asked table (subst (λ (l : List Answered). Agrees l table) log agrees);
    counted = omega (arith, h.counted, length_urls b c same);
  }

  -- ---- an answer more

  none_before : (log : List Answered) (a : Answered) (w : List ℕ) (o : Option Answered) → answer_of log w ≡ o → answer_of (log ++ a ∷ []) w ≡ None → answer_of log w ≡ None
  none_before log a w None e none = e
  none_before log a w (Some x) e none = let found : answer_of (log ++ a ∷ []) w ≡ Some x = found_in_more (is_of w) log (a ∷ []) x e in absurd (cc)

  follows_on : (log : List Answered) (a : Answered) (w : List ℕ) → MayFollow r u log a.url → MayFollow r u log w → answer_of (log ++ a ∷ []) w ≡ None → MayFollow r u (log ++ a ∷ []) w
  follows_on [] a w first may none =
      let same : a.url ≡ w = first ∙ sym may in
      let is : is_of w a ≡ true = (bytes_eq-Decides a.url w).1 same in
      let found : answer_of (a ∷ []) w ≡ Some a = rw is refl in
      absurd (cc)
  follows_on (x ∷ log) a w first may none = any_grows r w (x ∷ log) (a ∷ []) may

  pub whole_filled : (room : ℕ) (b c : State) (a : Answered) → urls c.slots ≡ urls b.slots → log_of c ≡ log_of b ++ a ∷ [] → MayFollow r u (log_of b) a.url → IsWhole r L u ahead room b → IsWhole r L u ahead room c
  whole_filled room b c a same log may h = record {
    own = same_number b c same u ∙ h.own;
    follows = λ n w at none.
        let missing : answer_of (log_of b ++ a ∷ []) w ≡ None = ap (λ (l : List Answered). answer_of l w) (sym log) ∙ none in
        let before : MayFollow r u (log_of b) w = h.follows n w (sym (same_number b c same w) ∙ at) (none_before (log_of b) a w (answer_of (log_of b) w) refl missing) in
        subst (λ (l : List Answered). MayFollow r u l w) (sym log) (follows_on (log_of b) a w may before missing);
    waited = h.waited;
    apart = h.apart;
    slotted = all_slotted b c (λ v n e. same_number b c same v ∙ e) h.waited h.slotted;
    are_asked = λ table agrees. h.are_asked table (agrees_front (log_of b) (a ∷ []) table (subst (λ (l : List Answered). Agrees l table) log agrees));
    counted = omega (arith, h.counted, length_urls b c same);
  }

  -- ---- a slot more

  push_follows : (b : State) (w : List ℕ) (depth : ℕ) → MayFollow r u (log_of b) w
      → ((n : ℕ) (v : List ℕ) → number_of b.slots v ≡ Some n → answer_of (log_of b) v ≡ None → MayFollow r u (log_of b) v)
      → (n : ℕ) (v : List ℕ) → number_of (with_slot w depth b).slots v ≡ Some n → answer_of (log_of (with_slot w depth b)) v ≡ None → MayFollow r u (log_of (with_slot w depth b)) v
  push_follows b w depth may old n v at none = subst (λ (l : List Answered). MayFollow r u l v) (sym (log_push b w depth)) (by_url (bytes_eq w v) refl)
    where
      by_url : (x : Bool) → bytes_eq w v ≡ x → MayFollow r u (log_of b) v
      by_url true is = subst (λ (x : List ℕ). MayFollow r u (log_of b) x) ((bytes_eq-Decides w v).0 is) may
      by_url false is = old n v (sym (number_other b w depth v is) ∙ at) (ap (λ (l : List Answered). answer_of l v) (sym (log_push b w depth)) ∙ none)

  -- one that was opened ahead
  whole_ahead : (room : ℕ) (b : State) (w : List ℕ) (depth : ℕ) → MayFollow r u (log_of b) w → IsWhole r L u ahead (suc room) b → IsWhole r L u ahead room (with_slot w depth b)
  whole_ahead room b w depth may h = record {
    own = number_push b w depth u 0 h.own;
    follows = push_follows b w depth may h.follows;
    waited = h.waited;
    apart = h.apart;
    slotted = all_slotted b (with_slot w depth b) (number_push b w depth) h.waited h.slotted;
    are_asked = λ table agrees. h.are_asked table (subst (λ (l : List Answered). Agrees l table) (log_push b w depth) agrees);
    counted = omega (arith, h.counted, length_push b w depth);
  }

  -- one for a URL that the page waits for
  whole_waits : (room : ℕ) (b : State) (w : List ℕ) (depth : ℕ) → number_of b.slots w ≡ None → MayFollow r u (log_of b) w → ((table : List Answered) → Agrees (log_of b) table → Contains (asked r table L u) w)
      → IsWhole r L u ahead room b → IsWhole r L u ahead room (with_slot w depth b)
  whole_waits room b w depth none may needed h = record {
    own = number_push b w depth u 0 h.own;
    follows = push_follows b w depth may h.follows;
    waited = w ∷ h.waited;
    apart = (new_apart b w none h.waited h.slotted, h.apart);
    slotted = (number_new b w depth none, all_slotted b (with_slot w depth b) (number_push b w depth) h.waited h.slotted);
    are_asked = λ table agrees. let before = subst (λ (l : List Answered). Agrees l table) (log_push b w depth) agrees in (needed table before, h.are_asked table before);
    counted = omega (arith, h.counted, length_push b w depth);
  }

  pub whole_opens : (room : ℕ) (b c : State) (w : List ℕ) (depth number : ℕ) → IsBoard b → IsLegal r u (log_of b) → state r (log_of b) L u ≡ Waiting w → Opens (number_of b.slots w) w depth b number c
      → IsWhole r L u ahead room b → IsWhole r L u ahead room c
  whole_opens room b c w depth number sound legal waits opens h = by_number (number_of b.slots w) refl opens
    where
      by_number : (o : Option ℕ) → number_of b.slots w ≡ o → Opens o w depth b number c → IsWhole r L u ahead room c
      by_number (Some n) is step = subst (IsWhole r L u ahead room) (sym step.1) h
      by_number None is step =
          subst (IsWhole r L u ahead room) (sym step.1)
          (whole_waits room b w depth is (waited_for_follows r (log_of b) L u w legal waits) (λ table agrees. (waits_for_asked r (log_of b) table L u w (log-is-looked-up b sound).once agrees waits).0) h)

  -- ---- slots ahead

  record GoesOn (old new : Opening) : Type 0 where
    whole : IsWhole r L u ahead new.room new.board
    log : log_of new.board ≡ log_of old.board

  url_opened : (w : List ℕ) (depth room : ℕ) (b : State) (o : Option ℕ) → MayFollow r u (log_of b) w → IsWhole r L u ahead room b → GoesOn (record { board = b; room = room }) (with_url o depth w (record { board = b; room = room }))
  url_opened w depth room b (Some n) may h = record { whole = h; log = refl }
  url_opened w depth zero b None may h = record { whole = h; log = refl }
  url_opened w depth (suc room) b None may h = record { whole = whole_ahead room b w depth may h; log = log_push b w depth }

  all_opened : (depth : ℕ) (ws : List (List ℕ)) (o : Opening) → ((w : List ℕ) → Contains ws w → MayFollow r u (log_of o.board) w) → IsWhole r L u ahead o.room o.board → GoesOn o (opened depth ws o)
  all_opened depth [] o may h = record { whole = h; log = refl }
  all_opened depth (w ∷ ws) o may h =
      let one : GoesOn o (with_url (number_of o.board.slots w) depth w o) = url_opened w depth o.room o.board (number_of o.board.slots w) (may w (0, omega arith, refl)) h in
      let next : Opening = with_url (number_of o.board.slots w) depth w o in
      let rest : GoesOn next (opened depth ws next) =
      all_opened depth ws next (λ v c. subst (λ (l : List Answered). MayFollow r u l v) (sym one.log) (may v (suc c.0, omega (arith, c.1), c.2))) one.whole in
      record { whole = rest.whole; log = rest.log ∙ one.log }

  pub whole_opened : (depth : ℕ) (a : Answered) (o new : Opening) → Contains (log_of o.board) a → new ≡ opened_by r L depth a o → IsWhole r L u ahead o.room o.board → IsWhole r L u ahead new.room new.board
  whole_opened depth a o new logged made h = subst (λ (x : Opening). IsWhole r L u ahead x.room x.board) (sym made) (by_depth (nat_lt depth L))
    where
      Whole : Opening → Type 0
      Whole x = IsWhole r L u ahead x.room x.board

      by_depth : (x : Bool) → IsWhole r L u ahead (if x then opened (depth + 1) (ahead_of r a) o else o).room (if x then opened (depth + 1) (ahead_of r a) o else o).board
      by_depth true = (all_opened (depth + 1) (ahead_of r a) o (λ w c. ahead_follows r u (log_of o.board) a w logged c) h).whole
      by_depth false = h

  -- ---- how many slots there are

  pub whole_few : (room : ℕ) (b : State) → IsBoard b → IsWhole r L u ahead room b → length b.slots + room ≤ MAX_LEGS + 1 + ahead
  whole_few room b sound h =
      let once : IsTable (log_of b) = (log-is-looked-up b sound).once in
      let few : length h.waited ≤ length (asked r (log_of b) L u) = no_more h.waited (asked r (log_of b) L u) h.apart (h.are_asked (log_of b) (agrees_itself (log_of b) once)) in
      omega (arith, h.counted, few, asks_few r (log_of b) L u)

  -- ---- what comes in may follow

  pub may_come : (room : ℕ) (b : State) (receipt : Receipt) → IsBoard b → fill_fault b.slots receipt ≡ None → IsWhole r L u ahead room b → MayFollow r u (log_of b) receipt.answer.url
  may_come room b receipt sound none h =
      let slot = taking b.slots receipt none in
      let takes : Takes slot.0 receipt = slot.2 in
      h.follows receipt.number receipt.answer.url (ap (number_of b.slots) takes.named ∙ number_of-slot b.slots receipt.number slot.0 sound.distinct slot.1) ((log-is-looked-up b sound).fresh receipt none)

  pub legal_on : (b c : State) (receipt : Receipt) → IsBoard b → fill_fault b.slots receipt ≡ None → log_of c ≡ log_of b ++ receipt.answer ∷ [] → MayFollow r u (log_of b) receipt.answer.url → IsLegal r u (log_of b) → IsLegal r u (log_of c)
  legal_on b c receipt sound none log may legal = subst (IsLegal r u) (sym log) (legal_grows r u (log_of b) receipt.answer legal may ((log-is-looked-up b sound).fresh receipt none))

-- ---- a page of which no answer is in

pub first_opened : (b c : State) (u : List ℕ) (n : ℕ) → b ≡ record { slots = []; filled = [] } → Opens (number_of b.slots u) u 0 b n c → c ≡ with_slot u 0 (record { slots = []; filled = [] })
first_opened b c u n is opens =
    let none : number_of b.slots u ≡ None = ap (λ (x : State). number_of x.slots u) is ∙ position-none (λ x. bytes_eq x u) [] refl in
    let made : Opens None u 0 b n c = subst (λ (o : Option ℕ). Opens o u 0 b n c) none opens in
    made.1 ∙ ap (with_slot u 0) is

pub whole_first : (r : Request) (L : ℕ) (u : List ℕ) (ahead : ℕ) (b : State) → b ≡ with_slot u 0 (record { slots = []; filled = [] }) → IsWhole r L u ahead ahead b
unfolding asked
whole_first r L u ahead b is = subst (IsWhole r L u ahead ahead) (sym is) (record {
  own = own;
  follows = λ n w at none. by_url n w at (bytes_eq u w) refl;
  waited = u ∷ [];
  apart = (tt, tt);
  slotted = (ap is_some own, tt);
  are_asked = λ table agrees. ((0, omega arith, refl), tt);
  counted = omega arith;
})
  where
    first : State
    first = with_slot u 0 (record { slots = []; filled = [] })

    own : number_of (with_slot u 0 (record { slots = []; filled = [] })).slots u ≡ Some 0
    own = let is : bytes_eq u u ≡ true = (bytes_eq-Decides u u).1 refl in rw is refl

    by_url : (n : ℕ) (w : List ℕ) → number_of (with_slot u 0 (record { slots = []; filled = [] })).slots w ≡ Some n → (x : Bool) → bytes_eq u w ≡ x → w ≡ u
    by_url n w at true is = sym ((bytes_eq-Decides u w).0 is)
    by_url n w at false is = let none : number_of (with_slot u 0 (record { slots = []; filled = [] })).slots w ≡ None = rw is refl in absurd (cc)

pub legal_first : (r : Request) (u : List ℕ) (b : State) → b ≡ with_slot u 0 (record { slots = []; filled = [] }) → IsLegal r u (log_of b)
legal_first r u b is = subst (IsLegal r u) (sym (ap log_of is)) (record {
  once = λ i j d before within. absurd (omega arith);
  each = λ front answer back e. absurd (omega (arith, ap length e, length-append front (answer ∷ back)));
})
