-- What is true of every run of an origin's health, by the calls and their answers alone. A history has the latest call first.
use Rattle.std.specs.Prelude.{◌≡◌, ◌≢◌, ℕ, ◌+◌, ◌-◌, ◌^◌, ◌<◌, ◌≤◌, ◌⊎◌, Bool, false, ◌&&◌, ◌||◌, not, nat_lt, nat_le, nat_eq, IsTrue, IsFalse, ⊤, List, [], ◌∷◌, ◌++◌, Some, None, if◌then◌else◌}
use Rattle.origin_health.specs.declared.health.Bounds.{Bounds}
use Rattle.origin_health.specs.declared.health.Permit.{Permit}
use Rattle.origin_health.specs.declared.health.Leave.{Leave}
use Rattle.origin_health.specs.declared.health.Leave.TheVariants.{Granted, TooMany, Rests}
use Rattle.origin_health.specs.declared.health.OriginHealth.{OriginHealth}
use Rattle.origin_health.specs.declared.standing.FetchEnd.{FetchEnd}
use Rattle.origin_health.specs.declared.standing.FetchEnd.TheVariants.{Reached, Unreachable, Other}
use Rattle.origin_health.specs.Health.{fresh, Asks, ended}

-- a call, with the millisecond at which it was made: a fetch was asked for, and got this leave; or one has ended
pub data Event : Type 0 where
  Sought : (now : ℕ) (leave : Leave) → Event
  Ended : (permit : Permit) (end : FetchEnd) (now : ℕ) → Event

abbrev pub History : Type 0
History = List Event

-- the call leads from old to new
abbrev pub Step : OriginHealth → Event → OriginHealth → Type 0
Step old (Sought now leave) new = Asks old now leave new
Step old (Ended permit end now) new = new ≡ ended old permit end now

-- an origin with these bounds is like this after these calls
abbrev pub Run : Bounds → History → OriginHealth → Type 0
Run bounds [] health = health ≡ fresh bounds
Run bounds (event ∷ earlier) health = (before : OriginHealth) × Run bounds earlier before × Step before event health

-- how many fetches were granted that haven't ended
abbrev pub in_flight : History → ℕ
in_flight [] = 0
in_flight (Sought now (Granted permit) ∷ earlier) = in_flight earlier + 1
in_flight (Sought now TooMany ∷ earlier) = in_flight earlier
in_flight (Sought now Rests ∷ earlier) = in_flight earlier
in_flight (Ended permit end now ∷ earlier) = in_flight earlier - 1

-- how many have failed to reach the origin since the last that reached it
abbrev pub failures : History → ℕ
failures [] = 0
failures (Sought now leave ∷ earlier) = failures earlier
failures (Ended permit Reached now ∷ earlier) = 0
failures (Ended permit Unreachable now ∷ earlier) = failures earlier + 1
failures (Ended permit Other now ∷ earlier) = failures earlier

-- a trial was granted, and since then no trial has failed, nor has any fetch reached the origin
abbrev pub is_tried : History → Bool
is_tried [] = false
is_tried (Sought now (Granted permit) ∷ earlier) = permit.is_trial || is_tried earlier
is_tried (Sought now TooMany ∷ earlier) = is_tried earlier
is_tried (Sought now Rests ∷ earlier) = is_tried earlier
is_tried (Ended permit Reached now ∷ earlier) = false
is_tried (Ended permit Unreachable now ∷ earlier) = not permit.is_trial && is_tried earlier
is_tried (Ended permit Other now ∷ earlier) = is_tried earlier

-- when the latest trial was granted
abbrev pub tried_at : History → ℕ
tried_at [] = 0
tried_at (Sought now (Granted permit) ∷ earlier) = if permit.is_trial then now else tried_at earlier
tried_at (Sought now TooMany ∷ earlier) = tried_at earlier
tried_at (Sought now Rests ∷ earlier) = tried_at earlier
tried_at (Ended permit end now ∷ earlier) = tried_at earlier

-- when the latest rest began: with the fifth failure in succession, or with the failure of a trial
abbrev pub rest_began : History → ℕ
rest_began [] = 0
rest_began (Sought now leave ∷ earlier) = rest_began earlier
rest_began (Ended permit Reached now ∷ earlier) = rest_began earlier
rest_began (Ended permit Unreachable now ∷ earlier) = if nat_eq (failures earlier) 4 || (permit.is_trial && is_tried earlier) then now else rest_began earlier
rest_began (Ended permit Other now ∷ earlier) = rest_began earlier

-- there are rests, and five fetches in succession have failed
abbrev pub has_failed : Bounds → History → Bool
has_failed bounds history = nat_lt 0 bounds.rest && nat_le 5 (failures history)

-- the origin has failed, and 200 milliseconds since the latest trial aren't over; where it isn't tried, its rest
abbrev pub is_resting : Bounds → History → ℕ → Bool
is_resting bounds history now = has_failed bounds history && (if is_tried history then nat_lt (now - tried_at history) 200 else nat_lt (now - rest_began history) bounds.rest)

-- what a call says about the earlier ones
abbrev pub Follows : Bounds → History → Event → Type 0
-- a fetch is granted if the origin isn't resting, and fewer are in flight than may be; it is a trial if the origin has failed
Follows bounds earlier (Sought now (Granted permit)) = IsFalse (is_resting bounds earlier now) × ((most : ℕ) → bounds.most_in_flight ≡ Some most → in_flight earlier < most) × (permit.is_trial ≡ has_failed bounds earlier)
-- it is one too many only if as many are in flight as may be
Follows bounds earlier (Sought now TooMany) = IsFalse (is_resting bounds earlier now) × (most : ℕ) × (bounds.most_in_flight ≡ Some most) × (in_flight earlier ≡ most)
-- it fails because the origin rests only if it does
Follows bounds earlier (Sought now Rests) = IsTrue (is_resting bounds earlier now)
Follows bounds earlier (Ended permit end now) = ⊤

-- each call follows from those before it
abbrev pub Keeps : Bounds → History → Type 0
Keeps bounds [] = ⊤
Keeps bounds (event ∷ earlier) = Follows bounds earlier event × Keeps bounds earlier

-- a bound is a number of 32 bits
abbrev pub AreBounds : Bounds → Type 0
AreBounds bounds = (most : ℕ) → bounds.most_in_flight ≡ Some most → most < 2 ^ 32

-- The law of an origin's health: in every run each call follows from the earlier ones.
abbrev pub HealthLaw : Type 0
HealthLaw = (bounds : Bounds) → AreBounds bounds → (history : History) (health : OriginHealth) → Run bounds history health → Keeps bounds history

-- Never are more in flight than may be, whatever the order of the calls.
abbrev pub NeverMore : Type 0
NeverMore = (bounds : Bounds) → AreBounds bounds → (most : ℕ) (history : History) (health : OriginHealth) → bounds.most_in_flight ≡ Some most → Run bounds history health → in_flight history ≤ most

-- none of these calls grants a fetch, and no fetch reaches the origin
abbrev pub IsQuiet : History → Type 0
IsQuiet [] = ⊤
IsQuiet (Sought now (Granted permit) ∷ earlier) = ⊥
IsQuiet (Sought now TooMany ∷ earlier) = IsQuiet earlier
IsQuiet (Sought now Rests ∷ earlier) = IsQuiet earlier
IsQuiet (Ended permit Reached now ∷ earlier) = ⊥
IsQuiet (Ended permit Unreachable now ∷ earlier) = IsQuiet earlier
IsQuiet (Ended permit Other now ∷ earlier) = IsQuiet earlier

-- the failure of this fetch is the fifth in succession, or that of a trial
abbrev pub BeginsRest : Permit → History → Type 0
BeginsRest permit earlier = (failures earlier ≡ 4) ⊎ (IsTrue permit.is_trial × IsTrue (is_tried earlier))

-- After the fifth failure in succession, and after that of a trial, with no fetch in between that reached the origin, the next one that is granted comes when the rest is over.
abbrev pub RestsWhole : Type 0
RestsWhole = (bounds : Bounds) → AreBounds bounds → (permit trial : Permit) (began now : ℕ) (since earlier : History) (health : OriginHealth) → 0 < bounds.rest
    → Run bounds (Sought now (Granted trial) ∷ (since ++ Ended permit Unreachable began ∷ earlier)) health → BeginsRest permit earlier → IsQuiet since → began + bounds.rest ≤ now

-- Once the latest trial has taken 200 milliseconds, no fetch is kept from the origin because that rests.
abbrev pub TrialsGoOn : Type 0
TrialsGoOn = (bounds : Bounds) → AreBounds bounds → (now : ℕ) (leave : Leave) (earlier : History) (health : OriginHealth) → Run bounds (Sought now leave ∷ earlier) health → IsTrue (is_tried earlier) → tried_at earlier + 200 ≤ now → leave ≢ Rests

-- No fetch is kept from an origin that rests, if fewer than five have failed since one reached it.
abbrev pub ReachEndsRest : Type 0
ReachEndsRest = (bounds : Bounds) → AreBounds bounds → (now : ℕ) (leave : Leave) (earlier : History) (health : OriginHealth) → Run bounds (Sought now leave ∷ earlier) health → failures earlier < 5 → leave ≢ Rests

-- Without bounds every fetch is granted.
abbrev pub UnboundedGrants : Type 0
UnboundedGrants = (bounds : Bounds) → AreBounds bounds → (now : ℕ) (leave : Leave) (earlier : History) (health : OriginHealth) → bounds.most_in_flight ≡ None → bounds.rest ≡ 0
    → Run bounds (Sought now leave ∷ earlier) health → leave ≡ Granted (record { is_trial = false })
