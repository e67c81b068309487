-- Why fetches got no response.
use Rattle.std.specs.declared.io.ErrorKind.{ErrorKind}
use Rattle.std.specs.declared.io.ErrorKind.TheVariants.{ConnectionRefused, ConnectionReset, HostUnreachable, NetworkUnreachable, TimedOut}
use Rattle.fetch_outcomes.specs.declared.fetch_fault.FetchFault.{FetchFault}
use Rattle.fetch_outcomes.specs.declared.fetch_fault.FetchFault.TheVariants as faults
use Rattle.fetch_outcomes.specs.declared.lost.Lost.{Lost}
use Rattle.fetch_outcomes.specs.declared.lost.Lost.TheVariants.{Fault}
use Rattle.http_body_util.specs.declared.limited.LimitedError.{LimitedError}
use Rattle.http_body_util.specs.declared.limited.LimitedError.TheVariants.{LengthLimit, Body}

-- the connection is refused or reset, or nothing leads to the host; the time is up; or else the connection broke off
abbrev pub fault_of : ErrorKind → FetchFault
fault_of ConnectionRefused = faults.Connect
fault_of ConnectionReset = faults.Connect
fault_of HostUnreachable = faults.Connect
fault_of NetworkUnreachable = faults.Connect
fault_of TimedOut = faults.Timeout
fault_of _ = faults.Cut

-- a body that is longer than it may be, or that broke off
abbrev pub lost_in_body : {E : Type 0} → LimitedError E → Lost
lost_in_body LengthLimit = Fault faults.TooLong
lost_in_body (Body error) = Fault faults.Cut
