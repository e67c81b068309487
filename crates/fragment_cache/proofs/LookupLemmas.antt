-- What is found among the entries and the flights after each change, and what is told of one flight.
use Rattle.std.proofs.Common.{◌≡◌, ℕ, zero, suc, ◌+◌, ◌<◌, ◌≤◌, Bool, true, false, not, cond, List, [], ◌∷◌, ◌++◌, take, filter, Option, Some, None, option_map, option_and_then, refl, sym, ◌∙◌, ap, arith, bytes_eq, nat_lt}
use Rattle.std.proofs.lemmas.Bool.{true≢false}
use Rattle.std.proofs.lemmas.Bool.Decides.{nat_tests}
use Rattle.std.proofs.lemmas.Slice.Eq.{bytes_eq-Decides}
use Rattle.std.proofs.lemmas.Map.Entries.{lookup-filter-keys}
use Rattle.std.specs.Option.{option_map_or}
use Rattle.edge_types.specs.Answered.{Answered}
use Rattle.fragment_cache.specs.Machine.{Entry, Entries, FlightState, Flights, entry_of, left, others, used, answer_before, same_number, flight_at, changed, without, departed, one_more, one_fewer, landed_with}
use Rattle.fragment_cache.proofs.EntryLemmas.{same_bytes}
use Rattle.fragment_cache.proofs.FlightLemmas.{lookup-append_none, lookup-append_some, lookup-changed, lookup-others, lookup-push, exact_number, number_itself}

pub bytes_itself : (x : List ℕ) → bytes_eq x x ≡ true
bytes_itself x = (bytes_eq-Decides x x).1 refl

-- ---- entries

pub turned_bytes : (x y : List ℕ) (b : Bool) → bytes_eq x y ≡ b → bytes_eq y x ≡ b
turned_bytes x y true e = (bytes_eq-Decides y x).1 (sym (same_bytes x y e))
turned_bytes x y false e = by_test (bytes_eq y x) refl
  where
    by_test : (b : Bool) → bytes_eq y x ≡ b → bytes_eq y x ≡ false
    by_test true is = absurd (true≢false (sym ((bytes_eq-Decides x y).1 (sym (same_bytes y x is))) ∙ e))
    by_test false is = is

pub entry_of-others : (url : List ℕ) (es : Entries) (u : List ℕ) → entry_of (others url es) u ≡ cond (bytes_eq url u) None (entry_of es u)
entry_of-others url es u = lookup-others bytes_eq same_bytes bytes_itself url es u

pub entry_of-left : (is_gone : List ℕ → Bool) (es : Entries) (u : List ℕ) → entry_of (left is_gone es) u ≡ cond (is_gone u) None (entry_of es u)
entry_of-left is_gone es u = lookup-filter-keys (bytes_eq u) (λ j. not (is_gone j)) (not (is_gone u)) (λ (j : List ℕ) (t : bytes_eq u j ≡ true). ap (λ (k : List ℕ). not (is_gone k)) (sym (same_bytes u j t))) es ∙ by_test (is_gone u)
  where
    by_test : (b : Bool) → cond (not b) (entry_of es u) None ≡ cond b None (entry_of es u)
    by_test true = refl
    by_test false = refl

pub entry_of-own : (url : List ℕ) (es : Entries) (u : List ℕ) → entry_of (filter (λ e. bytes_eq url e.0) es) u ≡ cond (bytes_eq url u) (entry_of es u) None
entry_of-own url es u = lookup-filter-keys (bytes_eq u) (bytes_eq url) (bytes_eq url u) (λ (j : List ℕ) (t : bytes_eq u j ≡ true). ap (bytes_eq url) (sym (same_bytes u j t))) es

pub entry_of-used : (url : List ℕ) (es : Entries) (u : List ℕ) → entry_of (used url es) u ≡ entry_of es u
entry_of-used url es u = by_test (bytes_eq url u) refl
  where
    own : Entries
    own = filter (λ e. bytes_eq url e.0) es

    by_entry : (o : Option Entry) → bytes_eq url u ≡ true → entry_of es u ≡ o → entry_of (used url es) u ≡ entry_of es u
    by_entry None t is =
        lookup-append_none (bytes_eq u) (filter (λ e. bytes_eq url e.0) es) (others url es) (entry_of-own url es u ∙ ap (λ (b : Bool). cond b (entry_of es u) None) t ∙ is)
        ∙ entry_of-others url es u ∙ ap (λ (b : Bool). cond b None (entry_of es u)) t ∙ sym is
    by_entry (Some e) t is =
        lookup-append_some (bytes_eq u) (filter (λ e. bytes_eq url e.0) es) (others url es) e (entry_of-own url es u ∙ ap (λ (b : Bool). cond b (entry_of es u) None) t ∙ is) ∙ sym is

    by_test : (b : Bool) → bytes_eq url u ≡ b → entry_of (used url es) u ≡ entry_of es u
    by_test true t = by_entry (entry_of es u) t refl
    by_test false t =
        lookup-append_none (bytes_eq u) (filter (λ e. bytes_eq url e.0) es) (others url es) (entry_of-own url es u ∙ ap (λ (b : Bool). cond b (entry_of es u) None) t)
        ∙ entry_of-others url es u ∙ ap (λ (b : Bool). cond b None (entry_of es u)) t

pub entry_of-take : (n : ℕ) (es : Entries) (u : List ℕ) (e : Entry) → entry_of (take n es) u ≡ Some e → entry_of es u ≡ Some e
entry_of-take zero es u e h = absurd (cc)
entry_of-take (suc n) [] u e h = h
entry_of-take (suc n) (x ∷ es) u e h = (elim (bytes_eq u x.0) as (λ b. bytes_eq u x.0 ≡ b → entry_of (x ∷ es) u ≡ Some e) [
  | true ↦ λ is. let h' = rw is at h in rw is h'
  | false ↦ λ is. rw is (entry_of-take n es u e (rw is at h))
]) refl

-- an answer that is given before a second is that of the entry
pub answer_before-some : (now end : ℕ) (a answer : Answered) → answer_before now end a ≡ Some answer → (now < end) × (a ≡ answer)
answer_before-some now end a answer h = by_test (nat_lt now end) refl
  where
    by_test : (b : Bool) → nat_lt now end ≡ b → (now < end) × (a ≡ answer)
    by_test true t = let e : Some a ≡ Some answer = sym (ap (λ (b : Bool). cond b (Some a) None) t) ∙ h in (grind (arith, nat_tests), cc)
    by_test false t = let e : None ≡ Some answer = sym (ap (λ (b : Bool). cond b (Some a) None) t) ∙ h in absurd (cc)

-- ---- flights, at a number

pub flight_at-changed : (number : ℕ) (g : FlightState → FlightState) (flights : Flights) (m : ℕ) → flight_at (changed number g flights) m ≡ cond (same_number number m) (option_map g (flight_at flights m)) (flight_at flights m)
flight_at-changed number g flights m = lookup-changed same_number exact_number number_itself number g flights m

pub flight_at-without : (number : ℕ) (flights : Flights) (m : ℕ) → flight_at (without number flights) m ≡ cond (same_number number m) None (flight_at flights m)
flight_at-without number flights m = lookup-others same_number exact_number number_itself number flights m

pub flight_at-push : (number : ℕ) (f : FlightState) (flights : Flights) (m : ℕ) → flight_at flights number ≡ None → flight_at (flights ++ (number, f) ∷ []) m ≡ cond (same_number number m) (Some f) (flight_at flights m)
flight_at-push number f flights m none = lookup-push same_number exact_number number_itself number f flights m none

-- what is told of a flight: the answer with which it landed, and that its pick-ups left and made are no more than its joins
pub record Tells (o : Option FlightState) (landed : Option Answered) (made joined : ℕ) : Type 0 where
  pub answer_is : (answer : Answered) → option_and_then (λ (f : FlightState). f.landed) o ≡ Some answer → (landed ≡ Some answer) × (0 < option_map_or (λ (f : FlightState). f.picks) o 0)
  pub picks : option_map_or (λ (f : FlightState). f.picks) o 0 + made ≤ joined

pub tells_none : (landed : Option Answered) (made joined : ℕ) → made ≤ joined → Tells None landed made joined
tells_none landed made joined h = record { answer_is = λ answer e. absurd (no answer e); picks = omega arith }
  where
    no : (answer : Answered) → None ≡ Some answer → ⊥
    no answer e = cc

pub made_below : (o : Option FlightState) (landed : Option Answered) (made joined : ℕ) → Tells o landed made joined → made ≤ joined
made_below o landed made joined t = let p = t.picks in omega arith

pub tells_more : (o : Option FlightState) (landed : Option Answered) (made joined : ℕ) → Tells o landed made joined → Tells (option_map one_more o) landed made (joined + 1)
tells_more None landed made joined t = tells_none landed made (joined + 1) (let p = made_below None landed made joined t in omega arith)
tells_more (Some f) landed made joined t = record { answer_is = λ answer e. ((t.answer_is answer e).0, omega arith); picks = let p : f.picks + made ≤ joined = t.picks in omega arith }

pub tells_departed : (url : List ℕ) (landed : Option Answered) (made joined : ℕ) → made ≤ joined → Tells (Some (departed url)) landed made joined
tells_departed url landed made joined h = record { answer_is = λ answer e. absurd (no answer e); picks = omega arith }
  where
    no : (answer : Answered) → None ≡ Some answer → ⊥
    no answer e = cc

pub tells_landed : (o : Option FlightState) (landed : Option Answered) (answer : Answered) (made joined : ℕ) → 0 < option_map_or (λ (f : FlightState). f.picks) o 0 → Tells o landed made joined → Tells (option_map (landed_with answer) o) (Some answer) made joined
tells_landed None landed answer made joined some t = tells_none (Some answer) made joined (made_below None landed made joined t)
tells_landed (Some f) landed answer made joined some t = record { answer_is = λ a e. (e, some); picks = t.picks }

pub tells_fewer : (o : Option FlightState) (landed : Option Answered) (made joined : ℕ) → 1 < option_map_or (λ (f : FlightState). f.picks) o 0 → Tells o landed made joined → Tells (option_map one_fewer o) landed (made + 1) joined
tells_fewer None landed made joined some t = absurd (omega arith)
tells_fewer (Some f) landed made joined some t = record { answer_is = λ a e. ((t.answer_is a e).0, let p : 1 < f.picks = some in omega arith); picks = let p : 1 < f.picks = some in let q : f.picks + made ≤ joined = t.picks in omega arith }

pub tells_less : (o : Option FlightState) (landed : Option Answered) (made joined : ℕ) → Tells o landed (made + 1) joined → Tells o landed made joined
tells_less o landed made joined t = record { answer_is = t.answer_is; picks = let p = t.picks in omega arith }
