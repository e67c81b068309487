-- Lists of events: what is read is written so, and what is written so is read.
use Rattle.std.proofs.Common.{◌≡◌, ℕ, zero, suc, ◌^◌, ◌+◌, ◌<◌, ◌≤◌, ◌==◌, nat_lt, Bool, true, false, cond, List, [], ◌∷◌, ◌++◌, length, take, drop, Option, Some, None, refl, sym, ◌∙◌, ap, ap₂, subst, arith, codes, bytes_eq, append_assoc, append-nil}
use Rattle.std.specs.Str.Parse.{AllDigits}
use Rattle.std.proofs.lemmas.Str.Parse.{digit_from_value}
use Rattle.std.specs.List.{All, position_or_len, slice_split, join_with_byte}
use Rattle.std.specs.Option.{option_map}
use Rattle.std.proofs.lemmas.List.Splits.{slice_split_first, slice_split_none, slice_split_at, join_with_byte-slice_split, length-slice_split}
use Rattle.std.proofs.lemmas.List.Sums.{fails_before_first}
use Rattle.std.proofs.lemmas.List.{length-drop}
use Rattle.std.proofs.lemmas.Bool.{eqb-true, ne_eqb, leb-true, le-leb, ltb-true, cond-true}
use Rattle.std.proofs.lemmas.Option.{none-some}
use Rattle.std.proofs.lemmas.Slice.Eq.{bytes_eq-Decides}
use Rattle.edge_types.specs.Decimal.{decimal_of}
use Rattle.edge_types.proofs.DecimalLemmas.{decimal_sound, decimal_complete, short_value}
use Rattle.edge_types.specs.Halves.{around}
use Rattle.plan_runner.specs.declared.events.Event.{Event}
use Rattle.plan_runner.specs.declared.events.Event.TheVariants.{Claim, Post, Advance}
use Rattle.edge_case.specs.Order.{comma, WritesPlace, WritesEvent, WriteEach, Lists, place_of, plain_event, event_of, after_item, events_by, events_of}
use Rattle.edge_case.specs.Reading.{◌>>=◌}
use Rattle.edge_case.proofs.Steps.{bound, mapped, same_value}

abbrev items_of : List ℕ → List (List ℕ)
items_of text = slice_split (λ b. b == comma) text

-- ---- the items of a text

-- the first item is taken off
pub record Cuts (text item rest : List ℕ) : Type 0 where
  pub items : items_of text ≡ item ∷ items_of rest
  pub shorter : length rest < length text

abbrev front : Option (List ℕ × List ℕ) → List ℕ
front None = []
front (Some x) = x.0

abbrev back : Option (List ℕ × List ℕ) → List ℕ
back None = []
back (Some x) = x.1

cuts_by : (text item rest : List ℕ) (b : Bool) → nat_lt (position_or_len (λ x. x == comma) text) (length text) ≡ b → around comma text ≡ Some (item, rest) → Cuts text item rest
unfolding around
cuts_by text item rest true within found =
    let n = position_or_len (λ (x : ℕ). x == comma) text in
    let less : n < length text = ltb-true _ _ within in
    let small : length (drop (n + 1) text) < length text = omega (arith, length-drop (n + 1) text, less) in
    let some : Some (take n text, drop (n + 1) text) ≡ Some (item, rest) = rw within at found in
    record {
      items = slice_split_first (λ x. x == comma) text 0 less ∙ ap₂ (λ x xs. x ∷ items_of xs) (ap front some) (ap back some);
      shorter = subst (λ (r : List ℕ). length r < length text) (ap back some) small;
    }
cuts_by text item rest false within found = absurd (none-some _ (rw within at found))

pub cuts : (text item rest : List ℕ) → around comma text ≡ Some (item, rest) → Cuts text item rest
cuts text item rest found = cuts_by text item rest _ refl found

uncut_by : (text : List ℕ) (b : Bool) → nat_lt (position_or_len (λ x. x == comma) text) (length text) ≡ b → around comma text ≡ None → items_of text ≡ text ∷ []
unfolding around
uncut_by text true within none = absurd (none-some _ (sym (rw within at none)))
uncut_by text false within none =
    let all : length text ≤ position_or_len (λ x. x == comma) text = grind (arith, within) in
    slice_split_none (λ x. x == comma) text (λ k d h. fails_before_first (λ x. x == comma) text k d (omega arith))

pub uncut : (text : List ℕ) → around comma text ≡ None → items_of text ≡ text ∷ []
uncut text none = uncut_by text _ refl none

-- ---- a place

guarded_by : {A : Type 0} (b : Bool) (o : Option A) (y : A) → cond b o None ≡ Some y → (b ≡ true) × (o ≡ Some y)
guarded_by true o y e = (refl, e)
guarded_by false o y e = absurd (cc)

place_sound : (digits : List ℕ) (place : ℕ) → place_of digits ≡ Some place → WritesPlace digits place
unfolding place_of
place_sound digits place h =
    let (short, found) = guarded_by _ (decimal_of digits 9999) place h in
    record { few = leb-true _ _ short; number = (decimal_sound digits 9999 place found).0 }

place_complete : (digits : List ℕ) (place : ℕ) → WritesPlace digits place → place_of digits ≡ Some place
unfolding place_of
place_complete digits place writes =
    let small : place < 10 ^ 4 = short_value digits place 4 writes.number writes.few in
    cond-true _ _ None (le-leb _ _ writes.few) ∙ decimal_complete digits 9999 place writes.number (omega (arith, small))

-- ---- an item

plain_sound : (item : List ℕ) (event : Event) (c a : Bool) → bytes_eq item (codes "c") ≡ c → bytes_eq item (codes "a") ≡ a
    → cond c (Some Claim) (cond a (Some Advance) None) ≡ Some event → WritesEvent item event
plain_sound item event true a is other h = subst (WritesEvent item) (same_value Claim event h) ((bytes_eq-Decides item (codes "c")).0 is)
plain_sound item event false true other is h = subst (WritesEvent item) (same_value Advance event h) ((bytes_eq-Decides item (codes "a")).0 is)
plain_sound item event false false c a h = absurd (cc)

post_sound : (mark : ℕ) (digits : List ℕ) (event : Event) → mark ≡ 112 → option_map Post (place_of digits) ≡ Some event → WritesEvent (mark ∷ digits) event
post_sound mark digits event is h =
    let (place, found, made) = mapped (place_of digits) Post event h in
    subst (WritesEvent (mark ∷ digits)) made (digits, ap (λ m. m ∷ digits) is, place_sound digits place found)

event_sound : (item : List ℕ) (event : Event) → event_of item ≡ Some event → WritesEvent item event
unfolding event_of
event_sound [] event h = absurd (cc)
event_sound (mark ∷ digits) event h = by_mark (mark == 112) refl h
  where
    by_mark : (b : Bool) → (mark == 112) ≡ b → cond b (option_map Post (place_of digits)) (plain_event (mark ∷ digits)) ≡ Some event → WritesEvent (mark ∷ digits) event
    by_mark true is e = post_sound mark digits event (eqb-true mark 112 is) e
    by_mark false other e = plain_sound (mark ∷ digits) event _ _ refl refl e

event_complete : (item : List ℕ) (event : Event) → WritesEvent item event → event_of item ≡ Some event
unfolding event_of
event_complete item Claim is = rw is refl
event_complete item Advance is = rw is refl
event_complete item (Post place) (digits, is, writes) = rw is (ap (option_map Post) (place_complete digits place writes))

-- ---- no item has a comma

abbrev Lacks : List ℕ → Type 0
Lacks item = All (λ b. (b == comma) ≡ false) item

lacks_cons : (b : ℕ) (bs : List ℕ) → (b == comma) ≡ false → Lacks bs → Lacks (b ∷ bs)
lacks_cons b bs other rest zero d h = other
lacks_cons b bs other rest (suc k) d h = rest k d (omega arith)

none_lacks : Lacks []
none_lacks k d h = absurd (omega arith)

digits_lack : (digits : List ℕ) → AllDigits 10 digits → Lacks digits
digits_lack [] all = none_lacks
digits_lack (c ∷ cs) all = lacks_cons c cs (ne_eqb c 44 (omega (arith, digit_from_value c all.0))) (digits_lack cs all.1)

event_lacks : (item : List ℕ) (event : Event) → WritesEvent item event → Lacks item
event_lacks item Claim is = subst Lacks (sym is) (lacks_cons 99 [] refl none_lacks)
event_lacks item Advance is = subst Lacks (sym is) (lacks_cons 97 [] refl none_lacks)
event_lacks item (Post place) (digits, is, writes) = subst Lacks (sym is) (lacks_cons 112 digits refl (digits_lack digits writes.number.0.1))

-- ---- items

each_sound : (items : List (List ℕ)) (events : List Event) → events_by items ≡ Some events → WriteEach items events
each_sound [] events h = subst (WriteEach []) (same_value _ _ h) tt
each_sound (item ∷ items) events h =
    let (event, first, more) = bound (event_of item) _ events h in
    let (later, rest, made) = bound (events_by items) _ events more in
    subst (WriteEach (item ∷ items)) (same_value _ _ made) (event_sound item event first, each_sound items later rest)

each_complete : (items : List (List ℕ)) (events : List Event) → WriteEach items events → events_by items ≡ Some events
each_complete [] [] w = refl
each_complete [] (event ∷ events) w = absurd w
each_complete (item ∷ items) [] w = absurd w
each_complete (item ∷ items) (event ∷ events) w = rw (event_complete item event w.0, each_complete items events w.1) refl

joined_again : (items : List (List ℕ)) (events : List Event) → 0 < length items → WriteEach items events → items_of (join_with_byte comma items) ≡ items
joined_again [] events some w = absurd (omega arith)
joined_again (item ∷ items) [] some w = absurd w
joined_again (item ∷ []) (event ∷ events) some w = slice_split_none (λ b. b == comma) item (event_lacks item event w.0)
joined_again (item ∷ next ∷ items) (event ∷ events) some w =
    slice_split_at (λ b. b == comma) item comma (join_with_byte comma (next ∷ items)) (event_lacks item event w.0) refl
    ∙ ap (λ xs. item ∷ xs) (joined_again (next ∷ items) events (omega arith) w.1)

-- ---- texts

pub order_sound : (text : List ℕ) (events : List Event) → events_of text ≡ Some events → Lists text events
unfolding events_of
order_sound text events h = record {
  items = items_of text;
  some = omega (arith, length-slice_split (λ b. b == comma) text);
  joined = sym (join_with_byte-slice_split comma text);
  written = each_sound (items_of text) events h;
}

pub order_complete : (text : List ℕ) (events : List Event) → Lists text events → events_of text ≡ Some events
unfolding events_of
order_complete text events lists =
    ap events_by (ap items_of lists.joined ∙ joined_again lists.items events lists.some lists.written) ∙ each_complete lists.items events lists.written

pub one_order : (text : List ℕ) (one other : List Event) → Lists text one → Lists text other → one ≡ other
one_order text one other first second = same_value one other (sym (order_complete text one first) ∙ order_complete text other second)

-- ---- reading item by item

-- the events so far with those that follow
abbrev pub with_events : List Event → Option (List Event) → Option (List Event)
with_events events more = option_map (λ later. events ++ later) more

one_more : (events : List Event) (first : Option Event) (later : Option (List Event))
    → with_events events (first >>= (λ event. later >>= (λ es. Some (event ∷ es)))) ≡ (after_item events first >>= (λ more. with_events more later))
one_more events None later = refl
one_more events (Some event) None = refl
one_more events (Some event) (Some es) = ap Some (sym (append_assoc events (event ∷ []) es))

read_on : (events : List Event) (rest item after : List ℕ) → around comma rest ≡ Some (item, after)
    → with_events events (events_of rest) ≡ (after_item events (event_of item) >>= (λ more. with_events more (events_of after)))
unfolding events_of
read_on events rest item after found =
    let cut = cuts rest item after found in
    ap (λ xs. with_events events (events_by xs)) cut.items ∙ one_more events (event_of item) (events_by (items_of after))

pub next_item : (events more : List Event) (rest item after : List ℕ) → around comma rest ≡ Some (item, after) → after_item events (event_of item) ≡ Some more
    → with_events more (events_of after) ≡ with_events events (events_of rest)
next_item events more rest item after found added =
    sym (read_on events rest item after found ∙ ap (λ o. o >>= (λ (es : List Event). with_events es (events_of after))) added)

pub bad_item : (events : List Event) (rest item after : List ℕ) → around comma rest ≡ Some (item, after) → after_item events (event_of item) ≡ None
    → with_events events (events_of rest) ≡ None
bad_item events rest item after found added =
    read_on events rest item after found ∙ ap (λ o. o >>= (λ (es : List Event). with_events es (events_of after))) added

ended : (o : Option (List Event)) → (o >>= (λ more. with_events more (Some []))) ≡ o
ended None = refl
ended (Some more) = ap Some (append-nil more)

pub last_item : (events : List Event) (rest : List ℕ) → around comma rest ≡ None → with_events events (events_of rest) ≡ after_item events (event_of rest)
unfolding events_of
last_item events rest none =
    ap (λ xs. with_events events (events_by xs)) (uncut rest none) ∙ one_more events (event_of rest) (Some []) ∙ ended (after_item events (event_of rest))
