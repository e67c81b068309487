-- What follows for a page from its meaning: what isn't asked changes nothing, few URLs are asked, a failed attempt
-- leaves no text, and what is fetched ahead is named by its template, and by no inline of it.
use Rattle.std.proofs.Common.{◌≡◌, ◌⊎◌, ◌≢◌, ℕ, zero, suc, ◌≤◌, Bool, true, false, cond, List, [], ◌∷◌, ◌++◌, length, take, Option, Some, None, if◌then◌else◌, refl, sym, ◌∙◌, ap, subst, inl, inr, arith}
use Rattle.std.specs.List.{AllByRecursion, Contains, cons_option, filter_map}
use Rattle.std.proofs.lemmas.List.{append-nil}
use Rattle.std.proofs.lemmas.Slice.Eq.{bytes_eq-Decides}
use Rattle.std.proofs.lemmas.List.Elements.{Contains-append_left, Contains-append_right, Contains-append_cases}
use Rattle.edge_types.specs.declared.request.Request.{Request}
use Rattle.edge_types.specs.Answered.{Answered}
use Rattle.edge_types.specs.Asked.{resolve}
use Rattle.edge_types.specs.Table.{is_of, answer_of, reply_in, reply_of}
use Rattle.esi_vars.specs.declared.part.Part.{Part}
use Rattle.esi_vars.specs.Values.{substituted}
use Rattle.esi_expr.specs.Truth.{holds}
use Rattle.esi_tree.specs.Tree.{Element, Text, VarsText, Include, Choose, Try, Vars, Inline, Nothing, Elements, End, Then, Branches, NoBranch, When, Otherwise}
use Rattle.esi_meaning.specs.declared.limits.TheConstants.{MAX_LEGS}
use Rattle.esi_meaning.specs.Ahead.{ahead_in, ahead_sources, ahead_among, unless_inline, asked_url, ahead, sources_in, sources, sources_among}
use Rattle.esi_meaning.specs.Inlines.{inline_for}
use Rattle.esi_meaning.specs.Laws.{SameReply, UnaskedChangesNothing, AsksFew, FailedAttemptLeavesNoText, AttemptWithTextStands, AheadHasSource}
use Rattle.esi_meaning.specs.Meaning.{elements_run, urls, most_legs, reply_legs, asked}
use Rattle.esi_meaning.specs.Run.{Leg, Asks, AsksNobody, Run, or_else}
use Rattle.esi_meaning.proofs.LegLemmas.{all_mapped}
use Rattle.esi_meaning.proofs.OutcomeLemmas.{rests_on_asked}
use Rattle.esi_meaning.proofs.StateLemmas.{false_if_not}

-- a list that hasn't x has other elements alone
no_later : {X : Type 0} (y : X) (xs : List X) (x : X) → ¬ Contains (y ∷ xs) x → ¬ Contains xs x
no_later y xs x none h = none (Contains-append_right (y ∷ []) xs x h)

all_others : {X : Type 0} (xs : List X) (x : X) → ¬ Contains xs x → AllByRecursion (λ y. y ≢ x) xs
all_others [] x none = tt
all_others (y ∷ xs) x none = (λ e. none (0, omega arith, e), all_others xs x (no_later y xs x none))

-- an answer of another URL changes no reply
found_after : (x : Answered) (w : List ℕ) (old new : Option Answered) → old ≡ new → (b : Bool) → cond b (Some x) old ≡ cond b (Some x) new
found_after x w old new e true = refl
found_after x w old new e false = e

found_beside : (front back : List Answered) (beside : Answered) (w : List ℕ) → is_of w beside ≡ false → answer_of (front ++ back) w ≡ answer_of (front ++ beside ∷ back) w
found_beside [] back beside w other = rw other refl
found_beside (x ∷ front) back beside w other =
    found_after x w (answer_of (front ++ back) w) (answer_of (front ++ beside ∷ back) w) (found_beside front back beside w other) (is_of w x)

same_beside : (front back : List Answered) (beside : Answered) (w : List ℕ) → w ≢ beside.url → SameReply (front ++ back) (front ++ beside ∷ back) w
same_beside front back beside w other =
    let differs : is_of w beside ≡ false = false_if_not (is_of w beside) (λ e. other (sym ((bytes_eq-Decides beside.url w).0 e))) in
    ap reply_in (found_beside front back beside w differs)

pub unasked_changes_nothing : UnaskedChangesNothing
unasked_changes_nothing r front back beside L u none =
    let S : List Answered = front ++ back in
    let T : List Answered = front ++ beside ∷ back in
    let all = all_mapped (λ (w : List ℕ). w ≢ beside.url) (SameReply S T) (same_beside front back beside) (asked r S L u) (all_others (asked r S L u) beside.url none) in
    sym ((rests_on_asked r S T L u all).1)

-- no more URLs than legs
few_urls : (n : ℕ) (legs : List Leg) → length (urls (take n legs)) ≤ n
few_urls zero legs = omega arith
few_urls (suc n) [] = omega arith
few_urls (suc n) (AsksNobody ∷ legs) = omega (arith, few_urls n legs)
few_urls (suc n) (Asks level w ∷ legs) = omega (arith, few_urls n legs)

most_are : most_legs ≡ MAX_LEGS
unfolding most_legs
most_are = refl

pub asks_few : AsksFew
unfolding asked
asks_few r T L u = omega (arith, few_urls most_legs (reply_legs r T L u (reply_of T u)), most_are)

pub failed_attempt_leaves_no_text : FailedAttemptLeavesNoText
failed_attempt_leaves_no_text r leg attempt except swapped fails = rw fails refl

stands : (legs : List Leg) (given : Option (List ℕ)) (except : Run) (text : List ℕ) → given ≡ Some text
    → or_else (record { legs = legs; text = given }) except ≡ record { legs = legs; text = given }
stands legs given except text e = rw (e, append-nil legs) refl

pub attempt_with_text_stands : AttemptWithTextStands
attempt_with_text_stands r leg attempt except swapped text e =
    stands (elements_run r leg attempt).legs (elements_run r leg attempt).text (elements_run r leg except) text e

-- each source that is fetched ahead is one of the template
is_source_if : (b : Bool) (xs ys vs ws : List (List Part)) (s : List Part) → (Contains xs s → Contains vs s ⊎ Contains ws s) → (Contains ys s → Contains vs s ⊎ Contains ws s)
    → Contains (if b then xs else ys) s → Contains vs s ⊎ Contains ws s
is_source_if true xs ys vs ws s f g h = f h
is_source_if false xs ys vs ws s f g h = g h

mutual
  is_source_in : (r : Request) (e : Element) (s : List Part) → Contains (ahead_in r e) s → Contains (sources_in e) s
  is_source_in r (Text text) s h = h
  is_source_in r (VarsText parts) s h = h
  is_source_in r (Include include) s h = h
  is_source_in r (Choose branches) s h = elim (is_source_among r [] branches s h) [ inl none ↦ absurd (omega (arith, none.1)) | inr some ↦ some ]
  is_source_in r (Try attempt except swapped) s h =
      elim (Contains-append_cases (ahead_sources r attempt) (ahead_sources r except) s h) [
        | inl a ↦ Contains-append_left (sources attempt) (sources except) s (is_source r attempt s a)
        | inr b ↦ Contains-append_right (sources attempt) (sources except) s (is_source r except s b)
      ]
  is_source_in r (Vars content) s h = is_source r content s h
  is_source_in r (Inline name content) s h = is_source r content s h
  is_source_in r Nothing s h = h

  is_source : (r : Request) (t : Elements) (s : List Part) → Contains (ahead_sources r t) s → Contains (sources t) s
  is_source r End s h = h
  is_source r (Then first rest) s h =
      elim (Contains-append_cases (ahead_in r first) (ahead_sources r rest) s h) [
        | inl a ↦ Contains-append_left (sources_in first) (sources rest) s (is_source_in r first s a)
        | inr b ↦ Contains-append_right (sources_in first) (sources rest) s (is_source r rest s b)
      ]

  is_source_among : (r : Request) (otherwise : List (List Part)) (bs : Branches) (s : List Part) → Contains (ahead_among r otherwise bs) s → Contains otherwise s ⊎ Contains (sources_among bs) s
  is_source_among r otherwise NoBranch s h = inl h
  is_source_among r otherwise (When test content rest) s h =
      is_source_if (holds r test) (ahead_sources r content) (ahead_among r otherwise rest) otherwise (sources content ++ sources_among rest) s
      (λ a. inr (Contains-append_left (sources content) (sources_among rest) s (is_source r content s a)))
      (λ b. elim (is_source_among r otherwise rest s b) [ inl o ↦ inl o | inr c ↦ inr (Contains-append_right (sources content) (sources_among rest) s c) ])
      h
  is_source_among r otherwise (Otherwise content rest) s h =
      elim (is_source_among r (ahead_sources r content) rest s h) [
        | inl a ↦ inr (Contains-append_left (sources content) (sources_among rest) s (is_source r content s a))
        | inr c ↦ inr (Contains-append_right (sources content) (sources_among rest) s c)
      ]

only_one : {X : Type 0} (z y : X) → Contains (z ∷ []) y → z ≡ y
only_one z y (zero, h, e) = e
only_one z y (suc k, h, e) = absurd (omega (arith, h))

-- where a filter's result comes from
record From {X Y : Type 0} (h : X → Option Y) (xs : List X) (y : Y) : Type 0 where
  source : X
  stands : Contains xs source
  is : h source ≡ Some y

from_later : {X Y : Type 0} (h : X → Option Y) (x : X) (xs : List X) (y : Y) → From h xs y → From h (x ∷ xs) y
from_later h x xs y f = record { source = f.source; stands = Contains-append_right (x ∷ []) xs f.source f.stands; is = f.is }

from_step : {X Y : Type 0} (h : X → Option Y) (x : X) (xs : List X) (y : Y) → (Contains (filter_map h xs) y → From h xs y) → (o : Option Y) → h x ≡ o
    → Contains (cons_option o (filter_map h xs)) y → From h (x ∷ xs) y
from_step h x xs y later None is c = from_later h x xs y (later c)
from_step h x xs y later (Some z) is c =
    elim (Contains-append_cases (z ∷ []) (filter_map h xs) y c) [
      | inl here ↦ record { source = x; stands = (0, omega arith, refl); is = is ∙ ap Some (only_one z y here) }
      | inr there ↦ from_later h x xs y (later there)
    ]

from_filter : {X Y : Type 0} (h : X → Option Y) (xs : List X) (y : Y) → Contains (filter_map h xs) y → From h xs y
from_filter h [] y c = absurd (omega (arith, c.1))
from_filter h (x ∷ xs) y c = from_step h x xs y (from_filter h xs y) (h x) refl c

unless_is : (v w : List ℕ) (inline : Option Elements) → unless_inline v inline ≡ Some w → (v ≡ w) × (inline ≡ None)
unless_is v w None e = let same : v ≡ w = cc in (same, refl)
unless_is v w (Some content) e = absurd (cc)

asked_is : (u w : List ℕ) (t : Elements) (o : Option (List ℕ)) → asked_url u t o ≡ Some w → (o ≡ Some w) × (inline_for u w t ≡ None)
asked_is u w t None e = absurd (cc)
asked_is u w t (Some v) e =
    let is = unless_is v w (inline_for u v t) e in
    (ap Some is.0, subst (λ (x : List ℕ). inline_for u x t ≡ None) is.0 is.1)

pub ahead_has_source : AheadHasSource
unfolding ahead
ahead_has_source r u t w c =
    let f = from_filter (λ (s : List Part). asked_url u t (resolve u (substituted r s))) (ahead_sources r t) w c in
    let is = asked_is u w t (resolve u (substituted r f.source)) f.is in
    (record { source = f.source; stands = is_source r t f.source f.stands; is_url = is.0 }, is.1)
