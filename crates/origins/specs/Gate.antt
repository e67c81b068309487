-- What fetches to one address ask before they begin, and whom they call when they have ended.
use Rattle.std.specs.Prelude.{◌≡◌, ◌⊎◌, ℕ, IsTrue, IsFalse, [], Option}
use Rattle.fetch_outcomes.specs.declared.fetch_fault.FetchFault.{FetchFault}
use Rattle.fetch_outcomes.specs.declared.fetch_fault.FetchFault.TheVariants as faults
use Rattle.origin_health.specs.Health as health
use Rattle.origin_health.specs.declared.health.Leave.TheVariants as leave
use Rattle.origin_health.specs.declared.health.OriginHealth.{OriginHealth}
use Rattle.origin_health.specs.declared.health.Permit.{Permit}
use Rattle.origin_health.specs.declared.standing.FetchEnd.{FetchEnd}
use Rattle.origin_queue.specs.Queue as queue
use Rattle.origin_queue.specs.Queued.{stands}
use Rattle.origin_queue.specs.declared.queue.Place.{Place}
use Rattle.origin_queue.specs.declared.queue.Ruling.TheVariants as ruling
use Rattle.origins.specs.declared.gate.Chance.{Chance}
use Rattle.origins.specs.declared.gate.Chance.TheVariants.{Granted, Waits, Lost}
use Rattle.origins.specs.declared.gate.Gate.{Gate}
use Rattle.fetch_outcomes.specs.declared.lost.Lost.TheVariants.{Fault, NoMemory}

-- an address lets no fetch through: it rests, or as many are in flight as may be
abbrev pub Withholds : OriginHealth → ℕ → FetchFault → Type 0
Withholds origin now faults.AtRest = IsTrue (health.rests_at origin now)
Withholds origin now faults.TooMany = IsFalse (health.rests_at origin now) × IsFalse (health.has_room origin)
Withholds origin now _ = ⊥

-- From old, a fetch that the queue lets through is told this, and leaves new.
abbrev pub Goes : Gate → ℕ → Chance → Gate → Type 0
Goes old now (Granted permit) new = (new.queue ≡ old.queue) × health.Asks old.health now (leave.Granted permit) new.health
Goes old now (Waits place) new = ⊥
Goes old now (Lost (Fault fault)) new = Withholds old.health now fault × (new.health ≡ old.health)
Goes old now (Lost NoMemory) new = ⊥

-- From old, a fetch that has this place is told this, and leaves new.
abbrev pub Joins : Gate → Place → Chance → Gate → Type 0
Joins old place (Granted permit) new = ⊥
Joins old place (Waits same) new = (same ≡ place) × (new.queue ≡ old.queue) × (new.health ≡ old.health)
Joins old place (Lost lost) new = (lost ≡ NoMemory) × (new.health ≡ old.health)

-- a fetch that isn't called is told this
abbrev pub LooksWaiting : Place → Chance → Type 0
LooksWaiting place (Granted permit) = ⊥
LooksWaiting place (Waits same) = same ≡ place
LooksWaiting place (Lost lost) = lost ≡ Fault faults.AtRest

-- From old, a fetch that is asked for is told this, and leaves new.
abbrev pub Asks : Gate → ℕ → Chance → Gate → Type 0
-- it goes where nobody waits, a permit is free and the address doesn't rest
Asks old now (Granted permit) new = queue.Asks old.queue ruling.Goes new.queue × health.Asks old.health now (leave.Granted permit) new.health
-- it waits behind all others, where the address doesn't rest
Asks old now (Waits place) new = queue.Asks old.queue (ruling.Waits place) new.queue × IsFalse (health.rests_at old.health now) × (new.health ≡ old.health)
-- it isn't made where the address lets none through, or as many wait as may
Asks old now (Lost (Fault fault)) new = (Withholds old.health now fault ⊎ ((fault ≡ faults.TooMany) × queue.Asks old.queue ruling.Full new.queue)) × (new.health ≡ old.health)
Asks old now (Lost NoMemory) new = new.health ≡ old.health

-- From old, a fetch at a place is told this, and leaves new.
abbrev pub Looks : Gate → ℕ → Place → Chance → Gate → Type 0
-- it goes where it was called and the address doesn't rest
Looks old now place (Granted permit) new = IsTrue (stands place.number old.queue.called) × health.Asks old.health now (leave.Granted permit) new.health
Looks old now place (Waits same) new = IsFalse (stands place.number old.queue.called) × (same ≡ place) × (new.health ≡ old.health)
-- it isn't made where the address lets none through, or it was dismissed
Looks old now place (Lost (Fault fault)) new = (Withholds old.health now fault ⊎ (IsFalse (stands place.number old.queue.called) × (fault ≡ faults.AtRest))) × (new.health ≡ old.health)
Looks old now place (Lost NoMemory) new = ⊥

-- From old, a fetch at a place gives it up, which calls the next one if it was called.
abbrev pub Leaves : Gate → Place → Gate → Type 0
Leaves old place new = (new.health ≡ old.health) × (next : Option Place) × queue.Leaves old.queue place.number next new.queue

-- From old, a fetch has ended, which calls whoever waits first; once the address rests, nobody waits.
pub record Ends (old : Gate) (permit : Permit) (end : FetchEnd) (now : ℕ) (new : Gate) : Type 0 where
  pub told : new.health ≡ health.ended old.health permit end now
  pub calls : IsFalse (health.rests_at new.health now) → (next : Option Place) × queue.Frees old.queue next new.queue
  pub dismisses : IsTrue (health.rests_at new.health now) → new.queue.waiting ≡ []
