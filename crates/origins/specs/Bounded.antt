-- What fetches say of the origin that they ask.
use Rattle.std.specs.Prelude.{◌≡◌, Bool, true, false, List, Any}
use Rattle.std.specs.declared.net.socket_addr.SocketAddr.{SocketAddr}
use Rattle.origins.specs.declared.bounded.OriginGate.{OriginGate}
use Rattle.fetch_outcomes.specs.declared.fetch_fault.FetchFault.TheVariants as faults
use Rattle.fetch_outcomes.specs.declared.lost.Lost.{Lost}
use Rattle.fetch_outcomes.specs.declared.lost.Lost.TheVariants.{Fault, NoMemory}
use Rattle.origin_health.specs.declared.standing.FetchEnd.{FetchEnd}
use Rattle.origin_health.specs.declared.standing.FetchEnd.TheVariants as ends

-- a fetch that got no response: one whose connection was made has reached the origin, whatever came over it; of the others only one that was refused or late counts against it
abbrev pub end_of : Bool → Lost → FetchEnd
end_of true lost = ends.Reached
end_of false (Fault faults.Connect) = ends.Unreachable
end_of false (Fault faults.Timeout) = ends.Unreachable
end_of false (Fault _) = ends.Other
end_of false NoMemory = ends.Other

-- there is a gate of the address
abbrev pub HasGate : List OriginGate → SocketAddr → Type 0
HasGate gates address = Any (λ (gate : OriginGate). gate.address ≡ address) gates
