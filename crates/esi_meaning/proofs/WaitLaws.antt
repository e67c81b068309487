-- At which leg a page waits, and for which URL.
use Rattle.std.proofs.Common.{◌≡◌, ◌⊎◌, ℕ, zero, suc, Bool, true, false, cond, List, [], ◌∷◌, take, find, Option, Some, None, is_none, refl, sym, ap, inl, inr}
use Rattle.std.specs.List.{AllByRecursion}
use Rattle.edge_types.specs.declared.request.Request.{Request}
use Rattle.edge_types.specs.Answered.{Answered}
use Rattle.edge_types.specs.Table.{answer_of, reply_in}
use Rattle.esi_meaning.specs.Laws.{IsLegOf, WaitsAtLeg, IsWaitedFor, LegIsWaitedFor}
use Rattle.esi_meaning.specs.Meaning.{urls, most_legs, reply_legs, page_legs, outcome, asked}
use Rattle.esi_meaning.specs.Run.{Leg, Asks, AsksNobody}
use Rattle.esi_meaning.specs.State.{is_missing, state, lacks, waits_at}
use Rattle.esi_meaning.proofs.LegLemmas.{IsAtLevel, level_page}
use Rattle.esi_meaning.proofs.StateLaws.{waits_for}

module _ (log : List Answered) where
  -- the first URL of these legs that is missing is that of the first leg that lacks its answer
  first_leg_step : (L n : ℕ) (v : List ℕ) (legs : List Leg) (w : List ℕ) → IsAtLevel L (Asks n v)
      → (find (is_missing log) (urls legs) ≡ Some w → IsLegOf L w (find (lacks log) legs)) → (b : Bool)
      → cond b (Some v) (find (is_missing log) (urls legs)) ≡ Some w → IsLegOf L w (cond b (Some (Asks n v)) (find (lacks log) legs))
  first_leg_step L n v legs w at later true e =
      let same : v ≡ w = cc in
      record { level = n; asks = ap (λ (x : List ℕ). Some (Asks n x)) same; above = at.0; within = at.1 }
  first_leg_step L n v legs w at later false e = later e

  first_leg : (L : ℕ) (legs : List Leg) (w : List ℕ) → AllByRecursion (IsAtLevel L) legs → find (is_missing log) (urls legs) ≡ Some w → IsLegOf L w (find (lacks log) legs)
  first_leg L [] w all e = absurd (cc)
  first_leg L (AsksNobody ∷ legs) w all e = first_leg L legs w all.1 e
  first_leg L (Asks n v ∷ legs) w all e = first_leg_step L n v legs w all.0 (first_leg L legs w all.1) (is_missing log v) e

  -- and the other way round
  abbrev IsFirst : List Leg → Leg → Type 0
  IsFirst legs (Asks level w) = find (is_missing log) (urls legs) ≡ Some w
  IsFirst legs AsksNobody = ⊥

  first_url_later : (n : ℕ) (v : List ℕ) (legs : List Leg) (leg : Leg) → is_missing log v ≡ false → IsFirst legs leg → IsFirst (Asks n v ∷ legs) leg
  first_url_later n v legs (Asks level w) is first = rw is first
  first_url_later n v legs AsksNobody is first = first

  first_url_past : (legs : List Leg) (leg : Leg) → IsFirst legs leg → IsFirst (AsksNobody ∷ legs) leg
  first_url_past legs (Asks level w) first = first
  first_url_past legs AsksNobody first = first

  first_url_step : (n : ℕ) (v : List ℕ) (legs : List Leg) (leg : Leg) → (find (lacks log) legs ≡ Some leg → IsFirst legs leg) → (b : Bool) → is_missing log v ≡ b
      → cond b (Some (Asks n v)) (find (lacks log) legs) ≡ Some leg → IsFirst (Asks n v ∷ legs) leg
  first_url_step n v legs (Asks level w) later true is e = let same : v ≡ w = cc in rw is (ap Some same)
  first_url_step n v legs AsksNobody later true is e = absurd (cc)
  first_url_step n v legs leg later false is e = first_url_later n v legs leg is (later e)

  first_url : (legs : List Leg) (leg : Leg) → find (lacks log) legs ≡ Some leg → IsFirst legs leg
  first_url [] leg e = absurd (cc)
  first_url (AsksNobody ∷ legs) leg e = first_url_past legs leg (first_url legs leg e)
  first_url (Asks n v ∷ legs) leg e = first_url_step n v legs leg (first_url legs leg) (is_missing log v) refl e

abbrev no_leg : List Leg
no_leg = []

none_taken : (m : ℕ) → take m no_leg ≡ no_leg
none_taken zero = refl
none_taken (suc m) = refl

-- a page whose own URL isn't logged has no leg
no_legs : (r : Request) (log : List Answered) (L : ℕ) (u : List ℕ) (found : Option Answered) → is_none found ≡ true → take most_legs (reply_legs r log L u (reply_in found)) ≡ []
no_legs r log L u None is = none_taken most_legs
no_legs r log L u (Some answer) is = absurd (cc)

module _ (r : Request) (log : List Answered) (L : ℕ) (u : List ℕ) where
  abbrev page : List Leg
  page = page_legs r log L u

  no_legs_found : is_missing log u ≡ true → find (lacks log) page ≡ None
  no_legs_found is = ap (find (lacks log)) (no_legs r log L u (answer_of log u) is)

  waits_by : (w : List ℕ) (b : Bool) → is_missing log u ≡ b → cond b (Some u) (find (is_missing log) (urls page)) ≡ Some w
      → ((w ≡ u) × (find (lacks log) page ≡ None)) ⊎ IsLegOf L w (find (lacks log) page)
  waits_by w true is e = let same : u ≡ w = cc in inl (sym same, no_legs_found is)
  waits_by w false is e = inr (first_leg log L page w (level_page r log L u) e)

  waited_by : (leg : Leg) → find (lacks log) page ≡ Some leg → (b : Bool) → is_missing log u ≡ b → IsFirst log page leg → IsWaitedFor r log L u leg
  unfolding state asked
  waited_by leg found true is first = let none = no_legs_found is in absurd (cc)
  waited_by (Asks level w) found false is first = rw (is, first) refl
  waited_by AsksNobody found false is first = first

pub waits_at_leg : WaitsAtLeg
unfolding state asked waits_at
waits_at_leg r log L u w e =
    waits_by r log L u w (is_missing log u) refl (waits_for (find (is_missing log) (asked r log L u)) (outcome r log L u) w e)

pub leg_is_waited_for : LegIsWaitedFor
unfolding waits_at
leg_is_waited_for r log L u leg e =
    waited_by r log L u leg e (is_missing log u) refl (first_url log (page_legs r log L u) leg e)
