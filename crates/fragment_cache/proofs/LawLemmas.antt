-- The law of the cache, by induction on the history.
use Rattle.std.proofs.Common.{◌≡◌, ◌≢◌, inl, inr, ℕ, ◌+◌, ◌-◌, ◌<◌, ◌≤◌, Bool, true, false, not, cond, List, [], ◌∷◌, ◌++◌, take, Option, Some, None, IsSome, option_map, option_and_then, refl, sym, ◌∙◌, ap, subst, arith, bytes_eq, nat_lt, nat_le, ◌&&◌, if◌then◌else◌}
use Rattle.std.proofs.lemmas.Bool.{true≢false, and_parts}
use Rattle.std.proofs.lemmas.Bool.Decides.{nat_tests}
use Rattle.std.specs.List.{AllByRecursion}
use Rattle.edge_types.specs.declared.answer.Reply.{Reply}
use Rattle.edge_types.specs.declared.answer.Reply.TheVariants.{Failed, Got}
use Rattle.edge_types.specs.Answered.{Answered}
use Rattle.edge_types.specs.Head.{is_success}
use Rattle.fragment_cache.specs.Times.{second_after, expiry_of, expiry_of_reply, fresh_until, extension_of, is_failing}
use Rattle.fragment_cache.specs.Machine.{Entry, Entries, Flight, Airspace, FlightState, State, Flights, empty, flying, entry_of, left, others, used, stored, fresh, bridge_end, bridging, answer_before, same_number, flight_at, flying_at, landed_at, picks_at, NoneFlies, changed, without, departed, one_more, one_fewer, landed_with, picked}
use Rattle.fragment_cache.specs.Steps.{PicksUp, Arrives, LandsSomehow, Hit, Join, Lead, Bypass, LookAnswer, Found, Missing, Refused, Here, Flying, Unknown}
use Rattle.fragment_cache.specs.Runs.{Event, Began, Looked, Landed, PickedUp, Purged, Step, Run}
use Rattle.fragment_cache.specs.Law.{History, is_of, flies_in, is_bridged, latest, flying_in, landed_in, leads, joins, heres, IsLatest, NoneFlew, Follows, Keeps, OneFlies, CacheLaw}
use Rattle.fragment_cache.proofs.EntryLemmas.{same_bytes, each_filter, each_append}
use Rattle.fragment_cache.proofs.FlightLemmas.{exact_number, flight_at-next, each_changed, flying_at-changed, flying_at-arrives, flying_at-push, landed_flies_not, flying_at-without}
use Rattle.fragment_cache.proofs.LookupLemmas.{bytes_itself, turned_bytes, entry_of-left, entry_of-others, entry_of-used, entry_of-take, answer_before-some, flight_at-changed, flight_at-without, flight_at-push, tells_none, made_below, tells_more, tells_departed, tells_landed, tells_fewer, tells_less, Tells}

-- ---- what a history tells of the state after it

pub record Told (h : History) (s : State) : Type 0 where
  pub flying : (m : ℕ) → flying_at s.flights m ≡ flying_in h m
  pub tells : (m : ℕ) → Tells (flight_at s.flights m) (landed_in h m) (heres h m) (joins h m)
  pub below : AllByRecursion (λ e. e.0 < s.next) s.flights
  pub number : s.next ≡ leads h
  pub latest : (url : List ℕ) (e : Entry) → entry_of s.entries url ≡ Some e → IsLatest h url e.answer e.expiry
  pub one : OneFlies h

told_empty : (capacity : ℕ) → Told [] (empty capacity)
told_empty capacity = record {
  flying = λ m. refl;
  tells = λ m. tells_none None 0 0 (omega arith);
  below = tt;
  number = refl;
  latest = λ url e is. absurd (no_entry e is);
  one = λ url one other a b. absurd (no_url url a);
}
  where
    no_entry : (e : Entry) → None ≡ Some e → ⊥
    no_entry e is = cc

    no_url : (url : List ℕ) → None ≡ Some url → ⊥
    no_url url is = cc

-- a hit
latest_fresh : (h : History) (s : State) (url : List ℕ) (now : ℕ) (answer : Answered) → Told h s → fresh s.entries url now ≡ Some answer → (expiry : ℕ) × IsLatest h url answer expiry × (now < expiry)
latest_fresh h s url now answer told is = by_entry (entry_of s.entries url) refl
  where
    by_entry : (o : Option Entry) → entry_of s.entries url ≡ o → (expiry : ℕ) × IsLatest h url answer expiry × (now < expiry)
    by_entry None at = let e : None ≡ Some answer = sym (ap (option_and_then (λ (e : Entry). answer_before now e.expiry e.answer)) at) ∙ is in absurd (cc)
    by_entry (Some e) at =
        let g = answer_before-some now e.expiry e.answer answer (sym (ap (option_and_then (λ (e : Entry). answer_before now e.expiry e.answer)) at) ∙ is) in
        (e.expiry, subst (λ (a : Answered). IsLatest h url a e.expiry) g.1 (told.latest url e at), g.0)

latest_bridging : (h : History) (s : State) (url : List ℕ) (now : ℕ) (answer : Answered) → Told h s → bridging s.entries url now ≡ Some answer → (expiry : ℕ) × IsLatest h url answer expiry × (now < second_after expiry (extension_of answer.reply))
latest_bridging h s url now answer told is = by_entry (entry_of s.entries url) refl
  where
    by_entry : (o : Option Entry) → entry_of s.entries url ≡ o → (expiry : ℕ) × IsLatest h url answer expiry × (now < second_after expiry (extension_of answer.reply))
    by_entry None at = let e : None ≡ Some answer = sym (ap (option_and_then (λ (e : Entry). answer_before now (bridge_end e) e.answer)) at) ∙ is in absurd (cc)
    by_entry (Some e) at =
        let g = answer_before-some now (bridge_end e) e.answer answer (sym (ap (option_and_then (λ (e : Entry). answer_before now (bridge_end e) e.answer)) at) ∙ is) in
        (e.expiry, subst (λ (a : Answered). IsLatest h url a e.expiry) g.1 (told.latest url e at), subst (λ (a : Answered). now < second_after e.expiry (extension_of a.reply)) g.1 g.0)

told_used : (h : History) (s : State) (url : List ℕ) → Told h s → Told h (record s { entries = used url s.entries })
told_used h s url told = record {
  flying = told.flying;
  tells = told.tells;
  below = told.below;
  number = told.number;
  latest = λ u e is. told.latest u e (sym (entry_of-used url s.entries u) ∙ is);
  one = told.one;
}

told_hit : (h : History) (s : State) (url : List ℕ) (now : ℕ) (answer : Answered) → Told h s → Told (Began url now (Hit answer) ∷ h) s
told_hit h s url now answer told = record { flying = told.flying; tells = told.tells; below = told.below; number = told.number; latest = told.latest; one = told.one }

told_join : (h : History) (s : State) (url : List ℕ) (now number : ℕ) → Told h s → Told (Began url now (Join number) ∷ h) (record s { flights = changed number one_more s.flights })
told_join h s url now number told = record {
  flying = λ m. flying_at-changed number one_more (λ f. refl) s.flights m ∙ told.flying m;
  tells = λ m. subst (λ (o : Option FlightState). Tells o (landed_in h m) (heres h m) (cond (same_number number m) (joins h m + 1) (joins h m))) (sym (flight_at-changed number one_more s.flights m)) (by_number m (same_number number m));
  below = each_changed (λ e. e.0 < s.next) number one_more s.flights (λ f at low. low) told.below;
  number = told.number;
  latest = told.latest;
  one = told.one;
}
  where
    by_number : (m : ℕ) (c : Bool) → Tells (cond c (option_map one_more (flight_at s.flights m)) (flight_at s.flights m)) (landed_in h m) (heres h m) (cond c (joins h m + 1) (joins h m))
    by_number m true = tells_more (flight_at s.flights m) (landed_in h m) (heres h m) (joins h m) (told.tells m)
    by_number m false = told.tells m

none_flew : (h : History) (s : State) (url : List ℕ) → Told h s → NoneFlies s.flights url → NoneFlew h url
none_flew h s url told none = λ m flew. none m (told.flying m ∙ flew)

told_lead : (h : History) (s : State) (url : List ℕ) (now : ℕ) (ready : Answered) → Told h s → NoneFlies s.flights url
    → Told (Began url now (Lead (record { number = s.next; url = url }) ready) ∷ h) (record s { flights = s.flights ++ (s.next, departed url) ∷ []; next = s.next + 1 })
told_lead h s url now ready told none = record {
  flying = λ m. flying_at-push s.next url s.flights m absent ∙ ap (cond (same_number s.next m) (Some url)) (told.flying m);
  tells = λ m. subst (λ (o : Option FlightState). Tells o (landed_in h m) (heres h m) (joins h m)) (sym (flight_at-push s.next (departed url) s.flights m absent)) (by_number m (same_number s.next m));
  below = each_append (λ (e : ℕ × FlightState). e.0 < s.next + 1) s.flights ((s.next, departed url) ∷ []) (weaker s.flights told.below) (omega arith, tt);
  number = ap (λ (n : ℕ). n + 1) told.number;
  latest = told.latest;
  one = λ u one other a b. by_numbers u one other (same_number s.next one) (same_number s.next other) refl refl a b;
}
  where
    absent : flight_at s.flights s.next ≡ None
    absent = flight_at-next s.next s.flights told.below

    by_number : (m : ℕ) (c : Bool) → Tells (cond c (Some (departed url)) (flight_at s.flights m)) (landed_in h m) (heres h m) (joins h m)
    by_number m true = tells_departed url (landed_in h m) (heres h m) (joins h m) (made_below (flight_at s.flights m) (landed_in h m) (heres h m) (joins h m) (told.tells m))
    by_number m false = told.tells m

    weaker : (es : Flights) → AllByRecursion (λ e. e.0 < s.next) es → AllByRecursion (λ e. e.0 < s.next + 1) es
    weaker [] low = tt
    weaker (e ∷ es) low = (let first : e.0 < s.next = low.0 in omega arith, weaker es low.1)

    clash : (u : List ℕ) (m : ℕ) → Some url ≡ Some u → flying_in h m ≡ Some u → ⊥
    clash u m same flew = none_flew h s url told none m (flew ∙ sym same)

    by_numbers : (u : List ℕ) (one other : ℕ) (c d : Bool) → same_number s.next one ≡ c → same_number s.next other ≡ d
        → cond (same_number s.next one) (Some url) (flying_in h one) ≡ Some u → cond (same_number s.next other) (Some url) (flying_in h other) ≡ Some u → one ≡ other
    by_numbers u one other true true c d a b = sym (exact_number s.next one c) ∙ exact_number s.next other d
    by_numbers u one other true false c d a b = absurd (clash u other (sym (ap (λ (t : Bool). cond t (Some url) (flying_in h one)) c) ∙ a) (sym (ap (λ (t : Bool). cond t (Some url) (flying_in h other)) d) ∙ b))
    by_numbers u one other false true c d a b = absurd (clash u one (sym (ap (λ (t : Bool). cond t (Some url) (flying_in h other)) d) ∙ b) (sym (ap (λ (t : Bool). cond t (Some url) (flying_in h one)) c) ∙ a))
    by_numbers u one other false false c d a b = told.one u one other (sym (ap (λ (t : Bool). cond t (Some url) (flying_in h one)) c) ∙ a) (sym (ap (λ (t : Bool). cond t (Some url) (flying_in h other)) d) ∙ b)

-- ---- landings

-- the flights after a landing
module _ (h : History) (s : State) (number : ℕ) (given : Answered) (flights : Flights) (told : Told h s) (arrives : Arrives s.flights number given flights) where
  flying_land : (m : ℕ) → flying_at flights m ≡ cond (same_number number m) None (flying_in h m)
  flying_land m = flying_at-arrives s.flights flights number given arrives m ∙ ap (cond (same_number number m) None) (told.flying m)

  gone_tells : (m : ℕ) (c : Bool) → Tells (cond c None (flight_at s.flights m)) (cond c (Some given) (landed_in h m)) (heres h m) (joins h m)
  gone_tells m true = tells_none (Some given) (heres h m) (joins h m) (made_below (flight_at s.flights m) (landed_in h m) (heres h m) (joins h m) (told.tells m))
  gone_tells m false = told.tells m

  stays_tells : 0 < picks_at s.flights number → (m : ℕ) (c : Bool) → same_number number m ≡ c → Tells (cond c (option_map (landed_with given) (flight_at s.flights m)) (flight_at s.flights m)) (cond c (Some given) (landed_in h m)) (heres h m) (joins h m)
  stays_tells some m true t = tells_landed (flight_at s.flights m) (landed_in h m) given (heres h m) (joins h m) (subst (λ (n : ℕ). 0 < picks_at s.flights n) (exact_number number m t) some) (told.tells m)
  stays_tells some m false t = told.tells m

  tells_land : (m : ℕ) → Tells (flight_at flights m) (cond (same_number number m) (Some given) (landed_in h m)) (heres h m) (joins h m)
  tells_land m = by_way arrives
    where
      by_way : Arrives s.flights number given flights → Tells (flight_at flights m) (cond (same_number number m) (Some given) (landed_in h m)) (heres h m) (joins h m)
      by_way (inl stays) = subst (λ (o : Option FlightState). Tells o (cond (same_number number m) (Some given) (landed_in h m)) (heres h m) (joins h m)) (sym (ap (λ (fs : Flights). flight_at fs m) stays.1 ∙ flight_at-changed number (landed_with given) s.flights m)) (stays_tells stays.0 m (same_number number m) refl)
      by_way (inr gone) = subst (λ (o : Option FlightState). Tells o (cond (same_number number m) (Some given) (landed_in h m)) (heres h m) (joins h m)) (sym (ap (λ (fs : Flights). flight_at fs m) gone ∙ flight_at-without number s.flights m)) (gone_tells m (same_number number m))

  below_land : AllByRecursion (λ e. e.0 < s.next) flights
  below_land = by_way arrives
    where
      by_way : Arrives s.flights number given flights → AllByRecursion (λ e. e.0 < s.next) flights
      by_way (inl stays) = subst (AllByRecursion (λ (e : ℕ × FlightState). e.0 < s.next)) (sym stays.1) (each_changed (λ e. e.0 < s.next) number (landed_with given) s.flights (λ f at low. low) told.below)
      by_way (inr gone) = subst (AllByRecursion (λ (e : ℕ × FlightState). e.0 < s.next)) (sym gone) (each_filter (λ (e : ℕ × FlightState). e.0 < s.next) (λ (e : ℕ × FlightState). not (same_number number e.0)) s.flights told.below)

  still : (m : ℕ) (c : Bool) (u : List ℕ) → cond c None (flying_in h m) ≡ Some u → flying_in h m ≡ Some u
  still m true u e = absurd (cc)
  still m false u e = e

  one_land : (u : List ℕ) (one other : ℕ) → cond (same_number number one) None (flying_in h one) ≡ Some u → cond (same_number number other) None (flying_in h other) ≡ Some u → one ≡ other
  one_land u one other a b = told.one u one other (still one (same_number number one) u a) (still other (same_number number other) u b)

-- ---- which way a landing goes, told from the call

-- a reply that is stored is no failing one
stored-is_failing : (reply : Reply) (at expiry : ℕ) → expiry_of_reply reply at ≡ Some expiry → is_failing reply ≡ false
stored-is_failing Failed at expiry e = absurd (cc)
stored-is_failing (Got head control body) at expiry e = by_status (is_success head.status) refl
  where
    by_status : (b : Bool) → is_success head.status ≡ b → is_failing (Got head control body) ≡ false
    by_status true t =
        let most : nat_le head.status 299 ≡ true = (and_parts (nat_le 200 head.status) (nat_le head.status 299) t).1 in
        let least : nat_le 500 head.status ≡ false = grind (arith, nat_tests) in
        ap (λ (b : Bool). b && nat_le head.status 599) least
    by_status false t =
        let none : None ≡ Some expiry = sym (ap (λ (b : Bool). cond (b && not control.no_store) (fresh_until at control.max_age) None) t) ∙ e in
        absurd (cc)

flies_in-flying : (h : History) (flight : Flight) → flying_in h flight.number ≡ Some flight.url → flies_in h flight ≡ true
flies_in-flying h flight flew = ap (is_of flight.url) flew ∙ bytes_itself flight.url

flies_in-other : (h : History) (flight : Flight) → flying_in h flight.number ≢ Some flight.url → flies_in h flight ≡ false
flies_in-other h flight other = by_flying (flying_in h flight.number) refl
  where
    by_url : (u : List ℕ) (b : Bool) → flying_in h flight.number ≡ Some u → bytes_eq flight.url u ≡ b → bytes_eq flight.url u ≡ false
    by_url u true is t = absurd (other (is ∙ ap Some (sym (same_bytes flight.url u t))))
    by_url u false is t = t

    by_flying : (o : Option (List ℕ)) → flying_in h flight.number ≡ o → is_of flight.url (flying_in h flight.number) ≡ false
    by_flying None is = ap (is_of flight.url) is
    by_flying (Some u) is = ap (is_of flight.url) is ∙ by_url u (bytes_eq flight.url u) is refl

is_bridged-itself : (answer : Answered) → is_bridged answer answer ≡ false
is_bridged-itself answer = both (is_failing answer.reply)
  where
    both : (b : Bool) → (b && not b) ≡ false
    both true = refl
    both false = refl

is_bridged-failing : (answer given : Answered) → is_failing answer.reply ≡ true → is_failing given.reply ≡ false → is_bridged answer given ≡ true
is_bridged-failing answer given fails stands = ap (λ (b : Bool). b && not (is_failing given.reply)) fails ∙ ap not stands

-- what the latest landing for a URL is, and that its answer was to be stored
abbrev Last : Option (Answered × ℕ) → Entry → Type 0
Last o e = (at : ℕ) × (o ≡ Some (e.answer, at)) × (expiry_of e.answer at ≡ Some e.expiry)

-- the history after a landing of a flight that flew, where its entries are told of
module _ (h : History) (s : State) (flight : Flight) (answer : Answered) (now : ℕ) (given : Answered) (flights : Flights) (told : Told h s)
    (flew : flying_in h flight.number ≡ Some flight.url) (arrives : Arrives s.flights flight.number given flights) where
  told_landed : (entries : Entries) (bridged : Bool) → is_bridged answer given ≡ bridged
      → ((u : List ℕ) (e : Entry) → entry_of entries u ≡ Some e → Last (cond (not bridged && bytes_eq flight.url u) (Some (answer, now)) (latest u h)) e)
      → Told (Landed flight answer now given ∷ h) (record s { entries = entries; flights = flights })
  told_landed entries bridged is last = record {
    flying = λ m. flying_land h s flight.number given flights told arrives m ∙ ap (λ (b : Bool). cond (b && same_number flight.number m) None (flying_in h m)) (sym flies);
    tells = λ m. subst (λ (b : Bool). Tells (flight_at flights m) (cond (b && same_number flight.number m) (Some given) (landed_in h m)) (heres h m) (joins h m)) (sym flies) (tells_land h s flight.number given flights told arrives m);
    below = below_land h s flight.number given flights told arrives;
    number = told.number;
    latest = λ u e at.
        subst (λ (f : Bool). Last (cond (f && (not (is_bridged answer given) && bytes_eq flight.url u)) (Some (answer, now)) (latest u h)) e) (sym flies)
        (subst (λ (b : Bool). Last (cond (not b && bytes_eq flight.url u) (Some (answer, now)) (latest u h)) e) (sym is) (last u e at));
    one = subst (λ (b : Bool). (u : List ℕ) (one other : ℕ) → cond (b && same_number flight.number one) None (flying_in h one) ≡ Some u → cond (b && same_number flight.number other) None (flying_in h other) ≡ Some u → one ≡ other) (sym flies)
        (one_land h s flight.number given flights told arrives);
  }
    where
      flies : flies_in h flight ≡ true
      flies = flies_in-flying h flight flew

told_bridged : (h : History) (s : State) (flight : Flight) (answer : Answered) (now : ℕ) (given : Answered) (flights : Flights) → Told h s → flying_in h flight.number ≡ Some flight.url
    → Arrives s.flights flight.number given flights → is_bridged answer given ≡ true → Told (Landed flight answer now given ∷ h) (record s { flights = flights })
told_bridged h s flight answer now given flights told flew arrives is = told_landed h s flight answer now given flights told flew arrives s.entries true is told.latest

told_not_stored : (h : History) (s : State) (flight : Flight) (answer : Answered) (now : ℕ) (flights : Flights) → Told h s → flying_in h flight.number ≡ Some flight.url
    → Arrives s.flights flight.number answer flights → Told (Landed flight answer now answer ∷ h) (record s { entries = others flight.url s.entries; flights = flights })
told_not_stored h s flight answer now flights told flew arrives =
    told_landed h s flight answer now answer flights told flew arrives (others flight.url s.entries) false (is_bridged-itself answer)
    (λ u e is. by_test u e (bytes_eq flight.url u) (sym (entry_of-others flight.url s.entries u) ∙ is))
  where
    by_test : (u : List ℕ) (e : Entry) (c : Bool) → cond c None (entry_of s.entries u) ≡ Some e → Last (cond c (Some (answer, now)) (latest u h)) e
    by_test u e true is = absurd (cc)
    by_test u e false is = told.latest u e is

told_stored : (h : History) (s : State) (flight : Flight) (answer : Answered) (now expiry : ℕ) (flights : Flights) → Told h s → flying_in h flight.number ≡ Some flight.url
    → expiry_of answer now ≡ Some expiry → Arrives s.flights flight.number answer flights
    → Told (Landed flight answer now answer ∷ h) (record s { entries = stored s.capacity flight.url (record { answer = answer; expiry = expiry }) s.entries; flights = flights })
told_stored h s flight answer now expiry flights told flew expires arrives =
    told_landed h s flight answer now answer flights told flew arrives (stored s.capacity flight.url (record { answer = answer; expiry = expiry }) s.entries) false (is_bridged-itself answer)
    (λ u e is. by_test u e (bytes_eq flight.url u) refl is)
  where
    own : (u : List ℕ) (e : Entry) → record { answer = answer; expiry = expiry } ≡ e → Last (Some (answer, now)) e
    own u e same = subst (λ (x : Entry). Last (Some (answer, now)) x) same (now, refl, expires)

    older : (u : List ℕ) (e : Entry) (c : Bool) → bytes_eq flight.url u ≡ c → c ≡ false → entry_of (take (s.capacity - 1) (others flight.url s.entries)) u ≡ Some e → entry_of s.entries u ≡ Some e
    older u e c t f is = sym (entry_of-others flight.url s.entries u ∙ ap (λ (b : Bool). cond b None (entry_of s.entries u)) (t ∙ f)) ∙ entry_of-take (s.capacity - 1) (others flight.url s.entries) u e is

    shows : (u : List ℕ) (b : Bool) → bytes_eq u flight.url ≡ b
        → entry_of (stored s.capacity flight.url (record { answer = answer; expiry = expiry }) s.entries) u ≡ cond b (Some (record { answer = answer; expiry = expiry })) (entry_of (take (s.capacity - 1) (others flight.url s.entries)) u)
    shows u b t = ap (λ (c : Bool). cond c (Some (record { answer = answer; expiry = expiry })) (entry_of (take (s.capacity - 1) (others flight.url s.entries)) u)) t

    by_test : (u : List ℕ) (e : Entry) (c : Bool) → bytes_eq flight.url u ≡ c → entry_of (stored s.capacity flight.url (record { answer = answer; expiry = expiry }) s.entries) u ≡ Some e
        → Last (cond (bytes_eq flight.url u) (Some (answer, now)) (latest u h)) e
    by_test u e true t is =
        let first : Some (record { answer = answer; expiry = expiry }) ≡ Some e = sym (shows u true (turned_bytes flight.url u true t)) ∙ is in
        let same : record { answer = answer; expiry = expiry } ≡ e = cc in
        subst (λ (c : Bool). Last (cond c (Some (answer, now)) (latest u h)) e) (sym t) (own u e same)
    by_test u e false t is =
        subst (λ (c : Bool). Last (cond c (Some (answer, now)) (latest u h)) e) (sym t)
        (told.latest u e (older u e false t refl (sym (shows u false (turned_bytes flight.url u false t)) ∙ is)))

-- ---- pick-ups

module _ (h : History) (s : State) (number : ℕ) (told : Told h s) (landed : IsSome (landed_at s.flights number)) where
  some_left : 0 < picks_at s.flights number
  some_left = by_landed (landed_at s.flights number) refl landed
    where
      by_landed : (o : Option Answered) → landed_at s.flights number ≡ o → IsSome o → 0 < picks_at s.flights number
      by_landed None is i = absurd (true≢false (sym i))
      by_landed (Some a) is i = ((told.tells number).answer_is a is).1

  -- of the flights after a pick-up, with one pick-up more made
  tells_picked : (m : ℕ) (b : Bool) → nat_lt 1 (picks_at s.flights number) ≡ b → Tells (flight_at (if b then changed number one_fewer s.flights else without number s.flights) m) (landed_in h m) (cond (same_number number m) (heres h m + 1) (heres h m)) (joins h m)
  tells_picked m true t = subst (λ (o : Option FlightState). Tells o (landed_in h m) (cond (same_number number m) (heres h m + 1) (heres h m)) (joins h m)) (sym (flight_at-changed number one_fewer s.flights m)) (by_number (same_number number m) refl)
    where
      two : 1 < picks_at s.flights number
      two = grind (arith, nat_tests)

      by_number : (c : Bool) → same_number number m ≡ c → Tells (cond c (option_map one_fewer (flight_at s.flights m)) (flight_at s.flights m)) (landed_in h m) (cond c (heres h m + 1) (heres h m)) (joins h m)
      by_number true e = tells_fewer (flight_at s.flights m) (landed_in h m) (heres h m) (joins h m) (subst (λ (n : ℕ). 1 < picks_at s.flights n) (exact_number number m e) two) (told.tells m)
      by_number false e = told.tells m
  tells_picked m false t = subst (λ (o : Option FlightState). Tells o (landed_in h m) (cond (same_number number m) (heres h m + 1) (heres h m)) (joins h m)) (sym (flight_at-without number s.flights m)) (by_number (same_number number m) refl)
    where
      by_number : (c : Bool) → same_number number m ≡ c → Tells (cond c None (flight_at s.flights m)) (landed_in h m) (cond c (heres h m + 1) (heres h m)) (joins h m)
      by_number true e =
          let left : 0 < picks_at s.flights m = subst (λ (n : ℕ). 0 < picks_at s.flights n) (exact_number number m e) some_left in
          let room : picks_at s.flights m + heres h m ≤ joins h m = (told.tells m).picks in
          tells_none (landed_in h m) (heres h m + 1) (joins h m) (omega arith)
      by_number false e = told.tells m

  flying_picked : (m : ℕ) (b : Bool) → flying_at (if b then changed number one_fewer s.flights else without number s.flights) m ≡ flying_at s.flights m
  flying_picked m true = flying_at-changed number one_fewer (λ f. refl) s.flights m
  flying_picked m false = flying_at-without number s.flights m ∙ by_number (same_number number m) refl
    where
      by_number : (c : Bool) → same_number number m ≡ c → cond (same_number number m) None (flying_at s.flights m) ≡ flying_at s.flights m
      by_number true t = ap (λ (b : Bool). cond b None (flying_at s.flights m)) t ∙ sym (ap (flying_at s.flights) (sym (exact_number number m t)) ∙ landed_flies_not s.flights number landed)
      by_number false t = ap (λ (b : Bool). cond b None (flying_at s.flights m)) t

  below_picked : (b : Bool) → AllByRecursion (λ e. e.0 < s.next) (if b then changed number one_fewer s.flights else without number s.flights)
  below_picked true = each_changed (λ e. e.0 < s.next) number one_fewer s.flights (λ f at low. low) told.below
  below_picked false = each_filter (λ (e : ℕ × FlightState). e.0 < s.next) (λ (e : ℕ × FlightState). not (same_number number e.0)) s.flights told.below

  made_one : heres h number < joins h number
  made_one = let left = some_left in let room : picks_at s.flights number + heres h number ≤ joins h number = (told.tells number).picks in omega arith

  told_here : (answer : Answered) → Told (PickedUp number (Here answer) ∷ h) (record s { flights = picked number s.flights })
  told_here answer = record {
    flying = λ m. flying_picked m (nat_lt 1 (picks_at s.flights number)) ∙ told.flying m;
    tells = λ m. tells_picked m (nat_lt 1 (picks_at s.flights number)) refl;
    below = below_picked (nat_lt 1 (picks_at s.flights number));
    number = told.number;
    latest = told.latest;
    one = told.one;
  }

  told_lost : Told (PickedUp number Unknown ∷ h) (record s { flights = picked number s.flights })
  told_lost = record {
    flying = λ m. flying_picked m (nat_lt 1 (picks_at s.flights number)) ∙ told.flying m;
    tells = λ m. less m (same_number number m) (tells_picked m (nat_lt 1 (picks_at s.flights number)) refl);
    below = below_picked (nat_lt 1 (picks_at s.flights number));
    number = told.number;
    latest = told.latest;
    one = told.one;
  }
    where
      less : (m : ℕ) (c : Bool) → Tells (flight_at (picked number s.flights) m) (landed_in h m) (cond c (heres h m + 1) (heres h m)) (joins h m) → Tells (flight_at (picked number s.flights) m) (landed_in h m) (heres h m) (joins h m)
      less m true t = tells_less (flight_at (picked number s.flights) m) (landed_in h m) (heres h m) (joins h m) t
      less m false t = t

-- ---- every step, and every run

told_bypass : (h : History) (s : State) (url : List ℕ) (now : ℕ) → Told h s → Told (Began url now Bypass ∷ h) s
told_bypass h s url now told = record { flying = told.flying; tells = told.tells; below = told.below; number = told.number; latest = told.latest; one = told.one }

told_looked : (h : History) (s : State) (url : List ℕ) (now : ℕ) (answer : LookAnswer) → Told h s → Told (Looked url now answer ∷ h) s
told_looked h s url now answer told = record { flying = told.flying; tells = told.tells; below = told.below; number = told.number; latest = told.latest; one = told.one }

told_missed : (h : History) (s : State) (flight : Flight) (answer : Answered) (now : ℕ) (given : Answered) → Told h s → flying_in h flight.number ≢ Some flight.url → Told (Landed flight answer now given ∷ h) s
told_missed h s flight answer now given told other = record {
  flying = λ m. told.flying m ∙ ap (λ (b : Bool). cond (b && same_number flight.number m) None (flying_in h m)) (sym misses);
  tells = λ m. subst (λ (b : Bool). Tells (flight_at s.flights m) (cond (b && same_number flight.number m) (Some given) (landed_in h m)) (heres h m) (joins h m)) (sym misses) (told.tells m);
  below = told.below;
  number = told.number;
  latest = λ u e is. subst (λ (b : Bool). Last (cond (b && (not (is_bridged answer given) && bytes_eq flight.url u)) (Some (answer, now)) (latest u h)) e) (sym misses) (told.latest u e is);
  one = subst (λ (b : Bool). (u : List ℕ) (one other : ℕ) → cond (b && same_number flight.number one) None (flying_in h one) ≡ Some u → cond (b && same_number flight.number other) None (flying_in h other) ≡ Some u → one ≡ other) (sym misses) told.one;
}
  where
    misses : flies_in h flight ≡ false
    misses = flies_in-other h flight other

told_purged : (h : History) (s : State) (is_gone : List ℕ → Bool) → Told h s → Told (Purged is_gone ∷ h) (record s { entries = left is_gone s.entries })
told_purged h s is_gone told = record {
  flying = told.flying;
  tells = told.tells;
  below = told.below;
  number = told.number;
  latest = λ u e is. by_test u e (is_gone u) refl (sym (entry_of-left is_gone s.entries u) ∙ is);
  one = told.one;
}
  where
    by_test : (u : List ℕ) (e : Entry) (c : Bool) → is_gone u ≡ c → cond (is_gone u) None (entry_of s.entries u) ≡ Some e → Last (cond (is_gone u) None (latest u h)) e
    by_test u e true t is = let none : None ≡ Some e = sym (ap (λ (b : Bool). cond b None (entry_of s.entries u)) t) ∙ is in absurd (cc)
    by_test u e false t is = subst (λ (b : Bool). Last (cond b None (latest u h)) e) (sym t) (told.latest u e (sym (ap (λ (b : Bool). cond b None (entry_of s.entries u)) t) ∙ is))

told_flying : (h : History) (s : State) (number : ℕ) → Told h s → Told (PickedUp number Flying ∷ h) s
told_flying h s number told = record { flying = told.flying; tells = told.tells; below = told.below; number = told.number; latest = told.latest; one = told.one }

told_unknown : (h : History) (s : State) (number : ℕ) → Told h s → Told (PickedUp number Unknown ∷ h) s
told_unknown h s number told = record { flying = told.flying; tells = told.tells; below = told.below; number = told.number; latest = told.latest; one = told.one }

led : (h : History) (old new : State) (url : List ℕ) (now : ℕ) (flight : Flight) (ready : Answered) → Step old (Began url now (Lead flight ready)) new → Told h old → Told (Began url now (Lead flight ready) ∷ h) new
led h old new url now flight ready step told =
    let leads = step.2 in
    let is : new ≡ record old { flights = old.flights ++ (old.next, departed url) ∷ []; next = old.next + 1 } = step.3 ∙ ap (λ (a : Airspace). record old { flights = a.flights; next = a.next }) leads.4 in
    subst (λ (f : Flight). Told (Began url now (Lead f ready) ∷ h) new) (sym leads.2)
    (subst (Told (Began url now (Lead (record { number = old.next; url = url }) ready) ∷ h)) (sym is) (told_lead h old url now ready told step.1))

here : (h : History) (old new : State) (number : ℕ) (answer : Answered) → Step old (PickedUp number (Here answer)) new → Told h old → Follows h (PickedUp number (Here answer)) × Told (PickedUp number (Here answer) ∷ h) new
here h old new number answer step told =
    let landed : IsSome (landed_at old.flights number) = subst (λ (o : Option Answered). IsSome o) (sym step.0.0) refl in
    let is : new ≡ record old { flights = picked number old.flights } = step.1 ∙ ap (λ (fs : Flights). record old { flights = fs }) step.0.1 in (
      (((told.tells number).answer_is answer step.0.0).0, made_one h old number told landed),
      subst (Told (PickedUp number (Here answer) ∷ h)) (sym is) (told_here h old number told landed answer),
    )

unknown : (h : History) (old new : State) (number : ℕ) → PicksUp old.flights number Unknown new.flights → new ≡ record old { flights = new.flights } → Told h old → Told (PickedUp number Unknown ∷ h) new
unknown h old new number (inl none) is told = subst (Told (PickedUp number Unknown ∷ h)) (sym (is ∙ ap (λ (fs : Flights). record old { flights = fs }) none.1)) (told_unknown h old number told)
unknown h old new number (inr lost) is told = subst (Told (PickedUp number Unknown ∷ h)) (sym (is ∙ ap (λ (fs : Flights). record old { flights = fs }) lost.1)) (told_lost h old number told lost.0)

unknown_flies_not : (old new : State) (number : ℕ) → PicksUp old.flights number Unknown new.flights → flying_at old.flights number ≡ None
unknown_flies_not old new number (inl none) = ap (option_and_then flying) none.0
unknown_flies_not old new number (inr lost) = landed_flies_not old.flights number lost.0

landed : (h : History) (old new : State) (flight : Flight) (answer : Answered) (now : ℕ) (given : Answered) → Told h old → LandsSomehow old flight answer now given new
    → Follows h (Landed flight answer now given) × Told (Landed flight answer now given ∷ h) new
landed h old new flight answer now given told (inl step) =
    (inl step.1, subst (Told (Landed flight answer now given ∷ h)) (sym step.2) (told_missed h old flight answer now given told (λ flew. step.0 (told.flying flight.number ∙ flew))))
landed h old new flight answer now given told (inr (inl step)) =
    let flew = sym (told.flying flight.number) ∙ step.0 in
    let l = latest_bridging h old flight.url now given told step.2 in
    let is = is_bridged-failing answer given step.1 (stored-is_failing given.reply l.1.0 l.0 l.1.2) in (
      inr (is, flew, l.0, l.1, l.2),
      subst (Told (Landed flight answer now given ∷ h)) (sym step.3) (told_bridged h old flight answer now given new.flights told flew step.4 is),
    )
landed h old new flight answer now given told (inr (inr (inl step))) = (
  inl step.1,
  subst (λ (a : Answered). Told (Landed flight answer now a ∷ h) new) (sym step.1)
      (subst (Told (Landed flight answer now answer ∷ h)) (sym step.4) (told_stored h old flight answer now step.2 new.flights told (sym (told.flying flight.number) ∙ step.0) step.3 step.5)),
)
landed h old new flight answer now given told (inr (inr (inr step))) = (
  inl step.1,
  subst (λ (a : Answered). Told (Landed flight answer now a ∷ h) new) (sym step.1)
      (subst (Told (Landed flight answer now answer ∷ h)) (sym step.2) (told_not_stored h old flight answer now new.flights told (sym (told.flying flight.number) ∙ step.0) step.3)),
)

told_step : (h : History) (old new : State) (event : Event) → Step old event new → Told h old → Follows h event × Told (event ∷ h) new
told_step h old new (Began url now (Hit answer)) step told =
    (latest_fresh h old url now answer told step.0, told_hit h new url now answer (subst (Told h) (sym step.1) (told_used h old url told)))
told_step h old new (Began url now (Join number)) step told =
    (sym (told.flying number) ∙ step.1, subst (Told (Began url now (Join number) ∷ h)) (sym step.3) (told_join h old url now number told))
told_step h old new (Began url now (Lead flight ready)) step told =
    ((ap (λ (f : Flight). f.url) step.2.2, ap (λ (f : Flight). f.number) step.2.2 ∙ told.number, step.2.3, none_flew h old url told step.1), led h old new url now flight ready step told)
told_step h old new (Began url now Bypass) step told =
    (tt, subst (Told (Began url now Bypass ∷ h)) (sym step.0) (told_bypass h old url now told))
told_step h old new (Looked url now (Found answer)) step told =
    (latest_fresh h old url now answer told step.0, told_looked h new url now (Found answer) (subst (Told h) (sym step.1) (told_used h old url told)))
told_step h old new (Looked url now Missing) step told = (tt, subst (Told (Looked url now Missing ∷ h)) (sym step.1) (told_looked h old url now Missing told))
told_step h old new (Looked url now Refused) step told = (tt, subst (Told (Looked url now Refused ∷ h)) (sym step.1) (told_looked h old url now Refused told))
told_step h old new (Landed flight answer now given) step told = landed h old new flight answer now given told step.1
told_step h old new (PickedUp number (Here answer)) step told = here h old new number answer step told
told_step h old new (PickedUp number Flying) step told =
    (subst (λ (o : Option (List ℕ)). IsSome o) (told.flying number) step.0.0, subst (Told (PickedUp number Flying ∷ h)) (sym (step.1 ∙ ap (λ (fs : Flights). record old { flights = fs }) step.0.1)) (told_flying h old number told))
told_step h old new (PickedUp number Unknown) step told = (sym (told.flying number) ∙ unknown_flies_not old new number step.0, unknown h old new number step.0 step.1 told)
told_step h old new (Purged is_gone) step told = (tt, subst (Told (Purged is_gone ∷ h)) (sym step) (told_purged h old is_gone told))

told_run : (capacity : ℕ) (h : History) (s : State) → Run capacity h s → Told h s × Keeps h
told_run capacity [] s run = (subst (Told []) (sym run) (told_empty capacity), tt)
told_run capacity (event ∷ earlier) s run =
    let before = told_run capacity earlier run.0 run.1 in
    let step = told_step earlier run.0 s event run.2 before.0 in
    (step.1, (step.0, before.1))

pub cache_law : CacheLaw
cache_law capacity history s run = let all = told_run capacity history s run in (all.1, all.0.one)
