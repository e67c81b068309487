-- Who waits for a permit, and who is called to take one.
use Rattle.std.specs.Prelude.{◌≡◌, ℕ, ◌+◌, ◌-◌, ◌^◌, Bool, true, false, ◌&&◌, ◌||◌, nat_lt, nat_le, IsTrue, IsFalse, [], ◌∷◌, ◌++◌, length, Option, Some, None}
use Rattle.origin_queue.specs.declared.queue.QueueBounds.{QueueBounds}
use Rattle.origin_queue.specs.declared.queue.Place.{Place}
use Rattle.origin_queue.specs.declared.queue.Ruling.{Ruling}
use Rattle.origin_queue.specs.declared.queue.Ruling.TheVariants.{Goes, Waits, Full}
use Rattle.origin_queue.specs.Queued as places
use Rattle.origin_queue.specs.Queued.{Queued}

-- nobody waits, and all permits are free
abbrev pub fresh : QueueBounds → Queued
fresh bounds = record { bounds = bounds; out = 0; given = 0; waiting = []; called = [] }

-- nobody waits, and a permit is free
abbrev pub may_go : Queued → Bool
may_go queue = nat_le (length queue.waiting) 0 && nat_lt queue.out queue.bounds.permits

-- as many wait as may, or no number is left for a place
abbrev pub is_full : Queued → Bool
is_full queue = nat_le queue.bounds.most_waiting (length queue.waiting) || nat_le (2 ^ 64 - 1) queue.given

-- the next place is the last of those who wait
abbrev pub Joins : Queued → Place → Queued → Type 0
Joins old place new = (place.number ≡ old.given) × (new ≡ record old { given = old.given + 1; waiting = old.waiting ++ old.given ∷ [] })

-- From old, who asks is told this, and leaves new.
abbrev pub Asks : Queued → Ruling → Queued → Type 0
Asks old Goes new = IsTrue (may_go old) × (new ≡ record old { out = old.out + 1 })
Asks old (Waits place) new = IsFalse (may_go old) × IsFalse (is_full old) × Joins old place new
Asks old Full new = IsFalse (may_go old) × IsTrue (is_full old) × (new ≡ old)

-- From old, a permit that is handed back calls this place, or none, and leaves new.
abbrev pub Frees : Queued → Option Place → Queued → Type 0
-- who waits first is called, and the permit is kept for him
Frees old (Some place) new = (old.waiting ≡ place.number ∷ new.waiting) × (new ≡ record old { waiting = new.waiting; called = old.called ++ place.number ∷ [] })
Frees old None new = (old.waiting ≡ []) × (new ≡ record old { out = old.out - 1 })

-- the place isn't called, or is so no more
abbrev pub uncalled : ℕ → Queued → Queued
uncalled number queue = record queue { called = places.without number queue.called }

-- nobody waits any longer
abbrev pub dismissed : Queued → Queued
dismissed queue = record queue { waiting = [] }

-- From old, who leaves this place calls the other one, or none, and leaves new.
abbrev pub LeavesAs : Bool → Queued → ℕ → Option Place → Queued → Type 0
-- he was called: his permit goes on to the next
LeavesAs true old number next new = Frees (uncalled number old) next new
LeavesAs false old number next new = (next ≡ None) × (new ≡ record old { waiting = places.without number old.waiting })

abbrev pub Leaves : Queued → ℕ → Option Place → Queued → Type 0
Leaves old number next new = LeavesAs (places.stands number old.called) old number next new
