-- Flights as a list by number, and the index of those that fly.
use Rattle.std.proofs.Common.{◌≡◌, inl, inr, ℕ, ◌+◌, ◌<◌, Bool, true, false, not, cond, List, [], ◌∷◌, ◌++◌, Option, Some, None, IsSome, MatchOption, is_none, option_map, option_and_then, refl, sym, ◌∙◌, ap, subst, arith, bytes_eq, nat_lt, nat_eq, if◌then◌else◌}
use Rattle.std.proofs.lemmas.Bool.{true≢false}
use Rattle.std.proofs.lemmas.Bool.Decides.{nat_tests}
use Rattle.std.proofs.lemmas.Slice.Eq.{bytes_eq-Decides}
use Rattle.std.proofs.lemmas.Map.Text.{is_eq-slice_cmp}
use Rattle.std.proofs.lemmas.Map.Lookups.{exact_unsigned}
use Rattle.std.proofs.lemmas.Map.Views.{tells_apart}
use Rattle.std.proofs.lemmas.Map.Entries.{lookup-filter-keys}
use Rattle.std.specs.Cmp.{nat_cmp_total, eq_by_cmp_equiv}
use Rattle.std.specs.Cmp.Lexicographic.{slice_cmp}
use Rattle.std.specs.Ordering.{nat_cmp}
use Rattle.std.specs.BTreeMap.{get, insert_entry}
use Rattle.std.specs.List.{AllByRecursion}
use Rattle.std.specs.Map.{lookup, set_value}
use Rattle.edge_types.specs.Answered.{Answered}
use Rattle.fragment_cache.specs.Machine.{FlightState, Flights, same_number, flight_at, flying, flying_at, landed_at, picks_at, NoneFlies, changed_value, changed, without, departed, one_fewer, landed_with, picked}
use Rattle.fragment_cache.specs.Sound.{HasNamed, AreFlights}
use Rattle.fragment_cache.specs.Index.{Indexed, Numbers, Changes, HaveSameNumbers}
use Rattle.fragment_cache.specs.Steps.{Arrives}
use Rattle.fragment_cache.proofs.EntryLemmas.{same_bytes, each_filter, each_append, of_others}

-- ---- look-ups in lists of pairs

pub lookup-append_none : {K X : Type 0} (test : K → Bool) (xs ys : List (K × X)) → lookup test xs ≡ None → lookup test (xs ++ ys) ≡ lookup test ys
lookup-append_none test [] ys h = refl
lookup-append_none test (x ∷ xs) ys h = (elim (test x.0) as (λ b. test x.0 ≡ b → lookup test ((x ∷ xs) ++ ys) ≡ lookup test ys) [
  | true ↦ λ is. let h' = rw is at h in absurd (cc)
  | false ↦ λ is. rw is (lookup-append_none test xs ys (rw is at h))
]) refl

pub lookup-append_some : {K X : Type 0} (test : K → Bool) (xs ys : List (K × X)) (v : X) → lookup test xs ≡ Some v → lookup test (xs ++ ys) ≡ Some v
lookup-append_some test [] ys v h = absurd (cc)
lookup-append_some test (x ∷ xs) ys v h = (elim (test x.0) as (λ b. test x.0 ≡ b → lookup test ((x ∷ xs) ++ ys) ≡ Some v) [
  | true ↦ λ is. let h' = rw is at h in rw is h'
  | false ↦ λ is. rw is (lookup-append_some test xs ys v (rw is at h))
]) refl

module _ {K : Type 0} (eq : K → K → Bool) (exact : (x y : K) → eq x y ≡ true → x ≡ y) (reflexive : (x : K) → eq x x ≡ true) where
  -- a test at equal keys
  same_test : (x y z : K) → eq x y ≡ true → eq z x ≡ eq z y
  same_test x y z e = ap (eq z) (exact x y e)

  turned : (x y : K) (b : Bool) → eq x y ≡ b → eq y x ≡ b
  turned x y true e = subst (λ (z : K). eq z x ≡ true) (exact x y e) (reflexive x)
  turned x y false e = by_test (eq y x) refl
    where
      by_test : (b : Bool) → eq y x ≡ b → eq y x ≡ false
      by_test true is = absurd (true≢false (sym (subst (λ (z : K). eq z y ≡ true) (exact y x is) (reflexive y)) ∙ e))
      by_test false is = is

module _ {K X : Type 0} (eq : K → K → Bool) (exact : (x y : K) → eq x y ≡ true → x ≡ y) (reflexive : (x : K) → eq x x ≡ true) where
  pub lookup-changed : (k : K) (g : X → X) (es : List (K × X)) (m : K) → lookup (eq m) (changed_value (eq k) g es) ≡ cond (eq k m) (option_map g (lookup (eq m) es)) (lookup (eq m) es)
  lookup-changed k g [] m = none (eq k m)
    where
      none : (b : Bool) → None ≡ cond b (option_map g None) None
      none true = refl
      none false = refl
  lookup-changed k g (e ∷ es) m = (elim (eq k e.0) as (λ a. eq k e.0 ≡ a → lookup (eq m) (changed_value (eq k) g (e ∷ es)) ≡ cond (eq k m) (option_map g (lookup (eq m) (e ∷ es))) (lookup (eq m) (e ∷ es))) [
    | true ↦ λ is. rw is (here (eq m e.0) (eq k m) e.1 (lookup (eq m) es) (turned eq exact reflexive m k (eq m e.0) (same_test eq exact reflexive k e.0 m is)))
    | false ↦ λ is. rw is (there (eq m e.0) (eq k m) e.1 (lookup (eq m) es) (lookup (eq m) (changed_value (eq k) g es)) (λ t. same_test eq exact reflexive m e.0 k t ∙ is) (lookup-changed k g es m))
  ]) refl
    where
      here : (b c : Bool) (x : X) (r : Option X) → c ≡ b → cond b (Some (g x)) r ≡ cond c (option_map g (cond b (Some x) r)) (cond b (Some x) r)
      here true true x r e = refl
      here false false x r e = refl
      here true false x r e = absurd (cc)
      here false true x r e = absurd (cc)

      there : (b c : Bool) (x : X) (r s : Option X) → (b ≡ true → c ≡ false) → s ≡ cond c (option_map g r) r → cond b (Some x) s ≡ cond c (option_map g (cond b (Some x) r)) (cond b (Some x) r)
      there true true x r s h e = absurd (true≢false (h refl))
      there true false x r s h e = refl
      there false c x r s h e = e

  pub lookup-others : (k : K) (es : List (K × X)) (m : K) → lookup (eq m) (of_others eq exact k es) ≡ cond (eq k m) None (lookup (eq m) es)
  lookup-others k es m = lookup-filter-keys (eq m) (λ (j : K). not (eq k j)) (not (eq k m)) (λ (j : K) (t : eq m j ≡ true). ap not (sym (same_test eq exact reflexive m j k t))) es ∙ flip (eq k m) (lookup (eq m) es)
    where
      flip : (b : Bool) (r : Option X) → cond (not b) r None ≡ cond b None r
      flip true r = refl
      flip false r = refl

  pub lookup-push : (k : K) (v : X) (es : List (K × X)) (m : K) → lookup (eq k) es ≡ None → lookup (eq m) (es ++ (k, v) ∷ []) ≡ cond (eq k m) (Some v) (lookup (eq m) es)
  lookup-push k v es m none = by_case (lookup (eq m) es) refl
    where
      by_test : (w : X) (b : Bool) → lookup (eq m) es ≡ Some w → eq k m ≡ b → Some w ≡ cond (eq k m) (Some v) (Some w)
      by_test w true is t = let at_k : lookup (eq k) es ≡ Some w = subst (λ (z : K). lookup (eq z) es ≡ Some w) (sym (exact k m t)) is in absurd (cc)
      by_test w false is t = rw t refl

      by_case : (o : Option X) → lookup (eq m) es ≡ o → lookup (eq m) (es ++ (k, v) ∷ []) ≡ cond (eq k m) (Some v) (lookup (eq m) es)
      by_case None is = lookup-append_none (eq m) es ((k, v) ∷ []) is ∙ ap (λ (b : Bool). cond b (Some v) None) (turned eq exact reflexive k m (eq k m) refl) ∙ ap (cond (eq k m) (Some v)) (sym is)
      by_case (Some w) is = lookup-append_some (eq m) es ((k, v) ∷ []) w is ∙ by_test w (eq k m) is refl ∙ ap (cond (eq k m) (Some v)) (sym is)

pub set_value-changed : {K X : Type 0} (test : K → Bool) (g : X → X) (es : List (K × X)) (f w : X) → lookup test es ≡ Some f → w ≡ g f → set_value test es w ≡ changed_value test g es
set_value-changed test g [] f w h e = refl
set_value-changed test g (x ∷ es) f w h e = (elim (test x.0) as (λ b. test x.0 ≡ b → set_value test (x ∷ es) w ≡ changed_value test g (x ∷ es)) [
  | true ↦ λ is. let h' = rw is at h in let same : x.1 ≡ f = cc in rw is (ap (λ v. (x.0, v) ∷ es) (e ∙ ap g (sym same)))
  | false ↦ λ is. rw is (ap (λ l. x ∷ l) (set_value-changed test g es f w (rw is at h) e))
]) refl

-- ---- flights

pub exact_number : (m n : ℕ) → same_number m n ≡ true → m ≡ n
exact_number = tells_apart exact_unsigned

pub number_itself : (n : ℕ) → same_number n n ≡ true
number_itself = (eq_by_cmp_equiv nat_cmp_total).refl

-- a number that is not below itself is of no flight
pub flight_at-next : (next : ℕ) (flights : Flights) → AllByRecursion (λ e. e.0 < next) flights → flight_at flights next ≡ None
flight_at-next next [] h = refl
flight_at-next next (e ∷ es) h = (elim (same_number next e.0) as (λ b. same_number next e.0 ≡ b → flight_at (e ∷ es) next ≡ None) [
  | true ↦ λ is. let same : next ≡ e.0 = exact_number next e.0 is in let low : e.0 < next = h.0 in absurd (omega arith)
  | false ↦ λ is. rw is (flight_at-next next es h.1)
]) refl

pub insert_entry-end : (next : ℕ) (f : FlightState) (flights : Flights) → AllByRecursion (λ e. e.0 < next) flights → insert_entry nat_cmp flights next f ≡ flights ++ (next, f) ∷ []
insert_entry-end next f [] h = refl
insert_entry-end next f (e ∷ es) h =
    let low : e.0 < next = h.0 in
    let past : nat_lt next e.0 ≡ false = grind (arith, nat_tests) in
    let other : nat_eq next e.0 ≡ false = grind (arith, nat_tests) in
    rw (past, other) (ap (λ l. e ∷ l) (insert_entry-end next f es h.1))

module _ (P : ℕ × FlightState → Type 0) (number : ℕ) (g : FlightState → FlightState) where
  pub each_changed : (flights : Flights) → ((f : FlightState) → flight_at flights number ≡ Some f → P (number, f) → P (number, g f)) → AllByRecursion P flights → AllByRecursion P (changed number g flights)
  each_changed [] keeps h = tt
  each_changed (e ∷ es) keeps h = (elim (same_number number e.0) as (λ b. same_number number e.0 ≡ b → AllByRecursion P (changed number g (e ∷ es))) [
    | true ↦ λ is.
        let same : number ≡ e.0 = exact_number number e.0 is in
        let found : flight_at (e ∷ es) number ≡ Some e.1 = rw is refl in
        rw is (subst (λ (n : ℕ). P (n, g e.1)) same (keeps e.1 found (subst (λ (n : ℕ). P (n, e.1)) (sym same) h.0)), h.1)
    | false ↦ λ is. rw is (h.0, each_changed es (λ f found. keeps f (rw is found)) h.1)
  ]) refl

-- a change that leaves flights flying, or landed, as they were
abbrev pub KeepsFlying : (FlightState → FlightState) → Type 0
KeepsFlying g = (f : FlightState) → flying (g f) ≡ flying f

pub flying_at-changed : (number : ℕ) (g : FlightState → FlightState) → KeepsFlying g → (flights : Flights) (m : ℕ) → flying_at (changed number g flights) m ≡ flying_at flights m
flying_at-changed number g keeps flights m = ap (option_and_then flying) (lookup-changed same_number exact_number number_itself number g flights m) ∙ by_case (same_number number m) (flight_at flights m)
  where
    by_case : (c : Bool) (o : Option FlightState) → option_and_then flying (cond c (option_map g o) o) ≡ option_and_then flying o
    by_case true None = refl
    by_case true (Some f) = keeps f
    by_case false o = refl

pub flying_at-landed : (number : ℕ) (answer : Answered) (flights : Flights) (m : ℕ) → flying_at (changed number (landed_with answer) flights) m ≡ cond (same_number number m) None (flying_at flights m)
flying_at-landed number answer flights m = ap (option_and_then flying) (lookup-changed same_number exact_number number_itself number (landed_with answer) flights m) ∙ by_case (same_number number m) (flight_at flights m)
  where
    by_case : (c : Bool) (o : Option FlightState) → option_and_then flying (cond c (option_map (landed_with answer) o) o) ≡ cond c None (option_and_then flying o)
    by_case true None = refl
    by_case true (Some f) = refl
    by_case false o = refl

pub flying_at-without : (number : ℕ) (flights : Flights) (m : ℕ) → flying_at (without number flights) m ≡ cond (same_number number m) None (flying_at flights m)
flying_at-without number flights m = ap (option_and_then flying) (lookup-others same_number exact_number number_itself number flights m) ∙ by_case (same_number number m) (flight_at flights m)
  where
    by_case : (c : Bool) (o : Option FlightState) → option_and_then flying (cond c None o) ≡ cond c None (option_and_then flying o)
    by_case true o = refl
    by_case false o = refl

pub flying_at-push : (number : ℕ) (url : List ℕ) (flights : Flights) (m : ℕ) → flight_at flights number ≡ None → flying_at (flights ++ (number, departed url) ∷ []) m ≡ cond (same_number number m) (Some url) (flying_at flights m)
flying_at-push number url flights m none = ap (option_and_then flying) (lookup-push same_number exact_number number_itself number (departed url) flights m none) ∙ by_case (same_number number m) (flight_at flights m)
  where
    by_case : (c : Bool) (o : Option FlightState) → option_and_then flying (cond c (Some (departed url)) o) ≡ cond c (Some url) (option_and_then flying o)
    by_case true o = refl
    by_case false o = refl

pub flying_at-arrives : (old new : Flights) (number : ℕ) (answer : Answered) → Arrives old number answer new → (m : ℕ) → flying_at new m ≡ cond (same_number number m) None (flying_at old m)
flying_at-arrives old new number answer (inl stays) m = ap (λ (fs : Flights). flying_at fs m) stays.1 ∙ flying_at-landed number answer old m
flying_at-arrives old new number answer (inr gone) m = ap (λ (fs : Flights). flying_at fs m) gone ∙ flying_at-without number old m

-- ---- the index

abbrev number_for : Numbers → List ℕ → Option ℕ
number_for index url = get (slice_cmp nat_cmp) index url

at_itself : (url u : List ℕ) (number : Option ℕ) (before after : Numbers) → Changes url number before after → url ≡ u → number_for after u ≡ number
at_itself url u number before after changes same =
    changes u ∙ ap (λ (b : Bool). cond b number (number_for before u)) (is_eq-slice_cmp url u ∙ (bytes_eq-Decides url u).1 same)

at_other : (url u : List ℕ) (number : Option ℕ) (before after : Numbers) → Changes url number before after → bytes_eq url u ≡ false → number_for after u ≡ number_for before u
at_other url u number before after changes other =
    changes u ∙ ap (λ (b : Bool). cond b number (number_for before u)) (is_eq-slice_cmp url u ∙ other)

module _ (before after : Numbers) (flights : Flights) (next : ℕ) (indexed : Indexed before flights next) (url : List ℕ) where
  module _ (none : NoneFlies flights url) (changes : Changes url (Some next) before after) where
    flights_after : Flights
    flights_after = flights ++ (next, departed url) ∷ []

    after_is : (m : ℕ) → flying_at (flights ++ (next, departed url) ∷ []) m ≡ cond (same_number next m) (Some url) (flying_at flights m)
    after_is m = flying_at-push next url flights m (flight_at-next next flights indexed.below)

    nobody : (u : List ℕ) → flying_at flights next ≡ Some u → ⊥
    nobody u e = let absent : flying_at flights next ≡ None = ap (option_and_then flying) (flight_at-next next flights indexed.below) in cc

    found_lead : (u : List ℕ) (m : ℕ) → number_for after u ≡ Some m → flying_at (flights ++ (next, departed url) ∷ []) m ≡ Some u
    found_lead u m h = by_url (bytes_eq url u) refl
      where
        by_number : (b : Bool) → same_number next m ≡ b → flying_at flights m ≡ Some u → flying_at (flights ++ (next, departed url) ∷ []) m ≡ Some u
        by_number true t e = absurd (nobody u (ap (flying_at flights) (exact_number next m t) ∙ e))
        by_number false t e = after_is m ∙ ap (λ (b : Bool). cond b (Some url) (flying_at flights m)) t ∙ e

        by_url : (b : Bool) → bytes_eq url u ≡ b → flying_at (flights ++ (next, departed url) ∷ []) m ≡ Some u
        by_url true t =
            let same : url ≡ u = same_bytes url u t in
            let is : number_for after u ≡ Some next = at_itself url u (Some next) before after changes same in
            let number : next ≡ m = cc in
            after_is m ∙ ap (λ (b : Bool). cond b (Some url) (flying_at flights m)) (subst (λ (k : ℕ). same_number next k ≡ true) number (number_itself next)) ∙ ap Some same
        by_url false t = by_number (same_number next m) refl (indexed.found u m (sym (at_other url u (Some next) before after changes t) ∙ h))

    listed_lead : (u : List ℕ) (m : ℕ) → flying_at (flights ++ (next, departed url) ∷ []) m ≡ Some u → number_for after u ≡ Some m
    listed_lead u m h = by_number (same_number next m) refl
      where
        by_url : (b : Bool) → bytes_eq url u ≡ b → flying_at flights m ≡ Some u → number_for after u ≡ Some m
        by_url true t e = absurd (none m (e ∙ ap Some (sym (same_bytes url u t))))
        by_url false t e = at_other url u (Some next) before after changes t ∙ indexed.listed u m e

        by_number : (b : Bool) → same_number next m ≡ b → number_for after u ≡ Some m
        by_number true t =
            let is : Some url ≡ Some u = sym (after_is m ∙ ap (λ (b : Bool). cond b (Some url) (flying_at flights m)) t) ∙ h in
            let same : url ≡ u = cc in
            at_itself url u (Some next) before after changes same ∙ ap Some (exact_number next m t)
        by_number false t = by_url (bytes_eq url u) refl (sym (after_is m ∙ ap (λ (b : Bool). cond b (Some url) (flying_at flights m)) t) ∙ h)

    pub Indexed-lead : Indexed after (flights ++ (next, departed url) ∷ []) (next + 1)
    Indexed-lead = record {
      found = found_lead;
      listed = listed_lead;
      below = each_append (λ (e : ℕ × FlightState). e.0 < next + 1) flights ((next, departed url) ∷ []) (weaker flights indexed.below) (omega arith, tt);
      named = each_append (λ (e : ℕ × FlightState). HasNamed e.1) flights ((next, departed url) ∷ []) indexed.named (tt, tt);
    }
      where
        weaker : (es : Flights) → AllByRecursion (λ e. e.0 < next) es → AllByRecursion (λ e. e.0 < next + 1) es
        weaker [] h = tt
        weaker (e ∷ es) h = (let low : e.0 < next = h.0 in omega arith, weaker es h.1)

  module _ (number : ℕ) (flies : flying_at flights number ≡ Some url) (changes : Changes url None before after) (flights' : Flights)
      (is : (m : ℕ) → flying_at flights' m ≡ cond (same_number number m) None (flying_at flights m)) where
    found_land : (u : List ℕ) (m : ℕ) → number_for after u ≡ Some m → flying_at flights' m ≡ Some u
    found_land u m h = by_url (bytes_eq url u) refl
      where
        by_number : (b : Bool) → bytes_eq url u ≡ false → same_number number m ≡ b → flying_at flights m ≡ Some u → flying_at flights' m ≡ Some u
        by_number true other t e =
            let there : flying_at flights m ≡ Some url = ap (flying_at flights) (sym (exact_number number m t)) ∙ flies in
            let same : url ≡ u = cc in
            absurd (true≢false (sym ((bytes_eq-Decides url u).1 same) ∙ other))
        by_number false other t e = is m ∙ ap (λ (b : Bool). cond b None (flying_at flights m)) t ∙ e

        by_url : (b : Bool) → bytes_eq url u ≡ b → flying_at flights' m ≡ Some u
        by_url true t = let gone : number_for after u ≡ None = at_itself url u None before after changes (same_bytes url u t) in absurd (cc)
        by_url false t = by_number (same_number number m) t refl (indexed.found u m (sym (at_other url u None before after changes t) ∙ h))

    listed_land : (u : List ℕ) (m : ℕ) → flying_at flights' m ≡ Some u → number_for after u ≡ Some m
    listed_land u m h = by_number (same_number number m) refl
      where
        by_url : (b : Bool) → bytes_eq url u ≡ b → same_number number m ≡ false → flying_at flights m ≡ Some u → number_for after u ≡ Some m
        by_url true t other e =
            let same : url ≡ u = same_bytes url u t in
            let one : number_for before u ≡ Some number = indexed.listed u number (flies ∙ ap Some same) in
            let two : number_for before u ≡ Some m = indexed.listed u m e in
            let equal : number ≡ m = cc in
            absurd (true≢false (sym (subst (λ (k : ℕ). same_number number k ≡ true) equal (number_itself number)) ∙ other))
        by_url false t other e = at_other url u None before after changes t ∙ indexed.listed u m e

        by_number : (b : Bool) → same_number number m ≡ b → number_for after u ≡ Some m
        by_number true t = let gone : flying_at flights' m ≡ None = is m ∙ ap (λ (b : Bool). cond b None (flying_at flights m)) t in absurd (cc)
        by_number false t = by_url (bytes_eq url u) refl t (sym (is m ∙ ap (λ (b : Bool). cond b None (flying_at flights m)) t) ∙ h)

-- after a landing
pub Indexed-land : (before after : Numbers) (flights flights' : Flights) (next : ℕ) (url : List ℕ) (number : ℕ) (answer : Answered)
    → Indexed before flights next → flying_at flights number ≡ Some url → answer.url ≡ url → Changes url None before after → Arrives flights number answer flights' → Indexed after flights' next
Indexed-land before after flights flights' next url number answer indexed flies named changes arrives = record {
  found = found_land before after flights next indexed url number flies changes flights' (flying_at-arrives flights flights' number answer arrives);
  listed = listed_land before after flights next indexed url number flies changes flights' (flying_at-arrives flights flights' number answer arrives);
  below = below_after arrives;
  named = named_after arrives;
}
  where
    of_url : (f : FlightState) → flight_at flights number ≡ Some f → answer.url ≡ f.url
    of_url f at = named ∙ by_landed f.landed refl
      where
        by_landed : (o : Option Answered) → f.landed ≡ o → url ≡ f.url
        by_landed None e = let shows : flying_at flights number ≡ Some f.url = ap (option_and_then flying) at ∙ ap (λ (l : Option Answered). cond (is_none l) (Some f.url) None) e in cc
        by_landed (Some a) e = let shows : flying_at flights number ≡ None = ap (option_and_then flying) at ∙ ap (λ (l : Option Answered). cond (is_none l) (Some f.url) None) e in absurd (cc)

    below_after : Arrives flights number answer flights' → AllByRecursion (λ e. e.0 < next) flights'
    below_after (inl stays) = subst (AllByRecursion (λ (e : ℕ × FlightState). e.0 < next)) (sym stays.1) (each_changed (λ e. e.0 < next) number (landed_with answer) flights (λ f at low. low) indexed.below)
    below_after (inr gone) = subst (AllByRecursion (λ (e : ℕ × FlightState). e.0 < next)) (sym gone) (each_filter (λ (e : ℕ × FlightState). e.0 < next) (λ (e : ℕ × FlightState). not (same_number number e.0)) flights indexed.below)

    named_after : Arrives flights number answer flights' → AllByRecursion (λ e. HasNamed e.1) flights'
    named_after (inl stays) = subst (AllByRecursion (λ (e : ℕ × FlightState). HasNamed e.1)) (sym stays.1) (each_changed (λ e. HasNamed e.1) number (landed_with answer) flights (λ f at _. of_url f at) indexed.named)
    named_after (inr gone) = subst (AllByRecursion (λ (e : ℕ × FlightState). HasNamed e.1)) (sym gone) (each_filter (λ (e : ℕ × FlightState). HasNamed e.1) (λ (e : ℕ × FlightState). not (same_number number e.0)) flights indexed.named)

-- after a change of pick-ups alone
pub Indexed-picks : (index : Numbers) (flights : Flights) (next number : ℕ) (g : FlightState → FlightState) → KeepsFlying g → ((f : FlightState) → HasNamed f → HasNamed (g f)) → Indexed index flights next → Indexed index (changed number g flights) next
Indexed-picks index flights next number g keeps named indexed = record {
  found = λ u m h. flying_at-changed number g keeps flights m ∙ indexed.found u m h;
  listed = λ u m h. indexed.listed u m (sym (flying_at-changed number g keeps flights m) ∙ h);
  below = each_changed (λ e. e.0 < next) number g flights (λ f at low. low) indexed.below;
  named = each_changed (λ e. HasNamed e.1) number g flights (λ f at. named f) indexed.named;
}

-- after the last pick-up of a flight, which flies no more
pub Indexed-without : (index : Numbers) (flights : Flights) (next number : ℕ) → flying_at flights number ≡ None → Indexed index flights next → Indexed index (without number flights) next
Indexed-without index flights next number lands indexed = record {
  found = λ u m h. same m ∙ indexed.found u m h;
  listed = λ u m h. indexed.listed u m (sym (same m) ∙ h);
  below = each_filter (λ (e : ℕ × FlightState). e.0 < next) (λ (e : ℕ × FlightState). not (same_number number e.0)) flights indexed.below;
  named = each_filter (λ (e : ℕ × FlightState). HasNamed e.1) (λ (e : ℕ × FlightState). not (same_number number e.0)) flights indexed.named;
}
  where
    by_number : (m : ℕ) (b : Bool) → same_number number m ≡ b → cond (same_number number m) None (flying_at flights m) ≡ flying_at flights m
    by_number m true t = ap (λ (b : Bool). cond b None (flying_at flights m)) t ∙ sym (ap (flying_at flights) (sym (exact_number number m t)) ∙ lands)
    by_number m false t = ap (λ (b : Bool). cond b None (flying_at flights m)) t

    same : (m : ℕ) → flying_at (without number flights) m ≡ flying_at flights m
    same m = flying_at-without number flights m ∙ by_number m (same_number number m) refl

pub AreFlights-from_index : (index : Numbers) (flights : Flights) (next : ℕ) → Indexed index flights next → AreFlights flights next
AreFlights-from_index index flights next indexed = record {
  named = indexed.named;
  one_flies = λ url one other f g. equal one other (indexed.listed url one f) (indexed.listed url other g);
  below = indexed.below;
}
  where
    equal : {o : Option ℕ} (one other : ℕ) → o ≡ Some one → o ≡ Some other → one ≡ other
    equal one other e f = cc

-- an index with the same numbers
pub Indexed-same : (before after : Numbers) (flights : Flights) (next : ℕ) → HaveSameNumbers before after → Indexed before flights next → Indexed after flights next
Indexed-same before after flights next agree indexed = record {
  found = λ u m h. indexed.found u m (sym (agree u) ∙ h);
  listed = λ u m h. agree u ∙ indexed.listed u m h;
  below = indexed.below;
  named = indexed.named;
}

-- what has landed doesn't fly
pub landed_flies_not : (flights : Flights) (number : ℕ) → IsSome (landed_at flights number) → flying_at flights number ≡ None
landed_flies_not flights number h = by_case (flight_at flights number) h
  where
    by_landed : (url : List ℕ) (picks : ℕ) (l : Option Answered) → IsSome l → flying (record { url = url; landed = l; picks = picks }) ≡ None
    by_landed url picks None i = absurd (true≢false (sym i))
    by_landed url picks (Some a) i = refl

    by_case : (o : Option FlightState) → IsSome (option_and_then (λ (f : FlightState). f.landed) o) → option_and_then flying o ≡ None
    by_case None i = absurd (true≢false (sym i))
    by_case (Some f) i = by_landed f.url f.picks f.landed i

-- after a pick-up
pub Indexed-picked : (index : Numbers) (flights flights' : Flights) (next number : ℕ) → IsSome (landed_at flights number) → flights' ≡ picked number flights → Indexed index flights next → Indexed index flights' next
Indexed-picked index flights flights' next number landed is indexed = subst (λ (fs : Flights). Indexed index fs next) (sym is) (by_test (nat_lt 1 (picks_at flights number)))
  where
    by_test : (b : Bool) → Indexed index (if b then changed number one_fewer flights else without number flights) next
    by_test true = Indexed-picks index flights next number one_fewer (λ f. refl) (λ f named. named) indexed
    by_test false = Indexed-without index flights next number (landed_flies_not flights number landed) indexed

-- what the index says of a URL
pub MatchOption-flying : (index : Numbers) (flights : Flights) (next : ℕ) (url : List ℕ) (r : Option ℕ) → r ≡ number_for index url → Indexed index flights next
    → MatchOption r (NoneFlies flights url) (λ number. flying_at flights number ≡ Some url)
MatchOption-flying index flights next url None is indexed = λ number flies. nothing (is ∙ indexed.listed url number flies)
  where
    nothing : {n : ℕ} → None ≡ Some n → ⊥
    nothing e = cc
MatchOption-flying index flights next url (Some number) is indexed = indexed.found url number (sym is)

-- a URL for which no flight flies isn't in the index
pub number_for-none : (index : Numbers) (flights : Flights) (next : ℕ) (url : List ℕ) → Indexed index flights next → NoneFlies flights url → get (slice_cmp nat_cmp) index url ≡ None
number_for-none index flights next url indexed none = by_case (number_for index url) refl
  where
    by_case : (o : Option ℕ) → number_for index url ≡ o → number_for index url ≡ None
    by_case None is = is
    by_case (Some n) is = absurd (none n (indexed.found url n is))

-- taken out again, a new URL leaves the index as it was
pub HaveSameNumbers-undone : (before mid after : Numbers) (url : List ℕ) (number : ℕ) → get (slice_cmp nat_cmp) before url ≡ None → Changes url (Some number) before mid → Changes url None mid after → HaveSameNumbers before after
HaveSameNumbers-undone before mid after url number absent opened closed = λ q. by_test q (bytes_eq url q) refl
  where
    by_test : (q : List ℕ) (b : Bool) → bytes_eq url q ≡ b → number_for after q ≡ number_for before q
    by_test q true t = let same : url ≡ q = same_bytes url q t in at_itself url q None mid after closed same ∙ sym (ap (number_for before) (sym same) ∙ absent)
    by_test q false t = at_other url q None mid after closed t ∙ at_other url q (Some number) before mid opened t

-- a flight that is found landed
pub landed_at-found : (flights : Flights) (number : ℕ) (f : FlightState) (answer : Answered) → Some f ≡ flight_at flights number → Some answer ≡ f.landed → IsSome (landed_at flights number)
landed_at-found flights number f answer found is =
    let at : landed_at flights number ≡ Some answer = ap (option_and_then (λ (f : FlightState). f.landed)) (sym found) ∙ sym is in
    subst (λ (o : Option Answered). IsSome o) (sym at) refl

-- all flights that fly for a URL are the one
pub picks_at-full : (flights : Flights) (next : ℕ) (url : List ℕ) (number most : ℕ) → AreFlights flights next → flying_at flights number ≡ Some url → picks_at flights number ≡ most
    → (other : ℕ) → flying_at flights other ≡ Some url → picks_at flights other ≡ most
picks_at-full flights next url number most sound flies full other f = subst (λ (n : ℕ). picks_at flights n ≡ most) (sound.one_flies url number other flies f) full
