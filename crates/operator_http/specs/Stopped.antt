-- How long a server that is to stop may take.
use Rattle.std.specs.Prelude.{ℕ, ◌+◌, ◌-◌, ◌*◌, ◌^◌, min, Bool, false, nat_le, List, length, take, drop, codes, bytes_eq, ◌==◌, Option, Some, None, if◌then◌else◌}
use Rattle.std.specs.Option.{option_map}
use Rattle.edge_types.specs.Decimal.{decimal_of}
use Rattle.operator_http.specs.declared.grace.Grace.{Grace}
use Rattle.operator_http.specs.declared.grace.Grace.TheVariants as grace

-- what the query of a stop says: nothing, or `grace=` and seconds
abbrev pub grace_by : List ℕ → Option Grace
grace_by query =
    if length query == 0 then Some grace.Unbounded
    else (if bytes_eq (take 6 query) (codes "grace=") then option_map grace.Seconds (decimal_of (drop 6 query) (2 ^ 32 - 1))
    else None)

-- the millisecond in which a stop ends that is asked for in this one: the largest where that is never
abbrev pub end_of : Option ℕ → Grace → ℕ
end_of (Some now) (grace.Seconds seconds) = min (now + min (seconds * 1000) (2 ^ 64 - 1)) (2 ^ 64 - 1)
end_of (Some now) grace.Unbounded = 2 ^ 64 - 1
end_of None wanted = 2 ^ 64 - 1

-- whether it has come in this one
abbrev pub has_come : ℕ → Option ℕ → Bool
has_come end (Some now) = nat_le end now
has_come end None = false
