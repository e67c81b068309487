-- When a fetch may be made to an origin, and what its end makes of that.
use Rattle.std.specs.Prelude.{◌≡◌, ℕ, ◌+◌, ◌-◌, ◌^◌, min, Bool, true, nat_lt, IsTrue, IsFalse, Option, Some, None}
use Rattle.origin_health.specs.declared.health.Bounds.{Bounds}
use Rattle.origin_health.specs.declared.health.Permit.{Permit}
use Rattle.origin_health.specs.declared.health.Leave.{Leave}
use Rattle.origin_health.specs.declared.health.Leave.TheVariants.{Granted, TooMany, Rests}
use Rattle.origin_health.specs.declared.health.OriginHealth.{OriginHealth}
use Rattle.origin_health.specs.declared.standing.FetchEnd.{FetchEnd}
use Rattle.origin_health.specs.declared.standing.Standing.TheVariants.{Asked}
use Rattle.origin_health.specs.Standing.{is_resting, has_rested, let_through, after}

-- nobody has asked it yet
abbrev pub fresh : Bounds → OriginHealth
fresh bounds = record { bounds = bounds; in_flight = 0; standing = Asked 0 }

-- fewer are in flight than may be
abbrev pub is_below : ℕ → Option ℕ → Bool
is_below in_flight None = true
is_below in_flight (Some most) = nat_lt in_flight most

abbrev pub has_room : OriginHealth → Bool
has_room health = is_below health.in_flight health.bounds.most_in_flight

abbrev pub rests_at : OriginHealth → ℕ → Bool
rests_at health now = is_resting health.bounds.rest health.standing now

-- From old, a fetch that is asked for may get this leave, and leaves new.
abbrev pub Asks : OriginHealth → ℕ → Leave → OriginHealth → Type 0
-- the origin doesn't rest, and fewer are in flight than may be: one more is
Asks old now (Granted permit) new = IsFalse (rests_at old now) × IsTrue (has_room old) × (permit.is_trial ≡ has_rested old.standing)
    × (new ≡ record old { in_flight = min (old.in_flight + 1) (2 ^ 32 - 1); standing = let_through old.standing now })
-- as many are in flight as may be: nothing changes
Asks old now TooMany new = IsFalse (rests_at old now) × IsFalse (has_room old) × (new ≡ old)
-- the origin rests: nothing changes
Asks old now Rests new = IsTrue (rests_at old now) × (new ≡ old)

-- the fetch with this permit has ended
abbrev pub ended : OriginHealth → Permit → FetchEnd → ℕ → OriginHealth
ended old permit end now = record old { in_flight = old.in_flight - 1; standing = after old.bounds.rest old.standing permit.is_trial end now }
