-- Whether an origin is asked, rests, or is tried after its rest.
use Rattle.std.specs.Prelude.{ℕ, ◌+◌, ◌-◌, Bool, true, false, nat_lt, if◌then◌else◌}
use Rattle.origin_health.specs.declared.standing.FetchEnd.{FetchEnd}
use Rattle.origin_health.specs.declared.standing.FetchEnd.TheVariants.{Reached, Unreachable, Other}
use Rattle.origin_health.specs.declared.standing.Standing.{Standing}
use Rattle.origin_health.specs.declared.standing.Standing.TheVariants.{Asked, Rests, Tried}

-- no fetch is let through: the rest isn't over, or the latest trial after it has taken less than 200 milliseconds
abbrev pub is_resting : ℕ → Standing → ℕ → Bool
is_resting rest (Asked failures) now = false
is_resting rest (Rests since) now = nat_lt (now - since) rest
is_resting rest (Tried since) now = nat_lt (now - since) 200

-- the next fetch is a trial
abbrev pub has_rested : Standing → Bool
has_rested (Asked failures) = false
has_rested (Rests since) = true
has_rested (Tried since) = true

-- a fetch is let through: each one after a rest is a trial
abbrev pub let_through : Standing → ℕ → Standing
let_through (Asked failures) now = Asked failures
let_through (Rests since) now = Tried now
let_through (Tried since) now = Tried now

-- the fifth failure in succession begins a rest, if there are rests
abbrev pub one_more_failure : ℕ → ℕ → ℕ → Standing
one_more_failure failures rest now = if nat_lt 0 rest then (if nat_lt (failures + 1) 5 then Asked (failures + 1) else Rests now) else Asked failures

-- a failed trial begins another rest; a fetch from before the rest, or a trial once another one has failed, changes nothing by failing
abbrev pub after_failure : ℕ → Standing → Bool → ℕ → Standing
after_failure rest (Asked failures) is_trial now = one_more_failure failures rest now
after_failure rest (Rests since) is_trial now = Rests since
after_failure rest (Tried since) true now = Rests now
after_failure rest (Tried since) false now = Tried since

-- what the end of a fetch makes of it; whoever reaches the origin ends any rest
abbrev pub after : ℕ → Standing → Bool → FetchEnd → ℕ → Standing
after rest standing is_trial Reached now = Asked 0
after rest standing is_trial Unreachable now = after_failure rest standing is_trial now
after rest standing is_trial Other now = standing
