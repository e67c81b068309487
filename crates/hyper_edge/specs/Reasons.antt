-- Why a page isn't as it should be.
use Rattle.std.specs.Prelude.{ℕ, nat_le, nat_eq, Option, Some, None, Result, Ok, Err, if◌then◌else◌}
use Rattle.access_log.specs.declared.record.Reason.{Reason}
use Rattle.access_log.specs.declared.record.Reason.TheVariants as reason
use Rattle.edge_types.specs.declared.outcome.Outcome.{Outcome}
use Rattle.edge_types.specs.declared.outcome.Outcome.TheVariants as outcome
use Rattle.edge_types.specs.declared.outcome.PageFault.{PageFault}

-- the status of a page, or its fault
abbrev pub status_of : Outcome → Result ℕ PageFault
status_of (outcome.Page head body) = Ok head.status
status_of (outcome.Fault fault) = Err fault

-- why this status was sent: the page has a fault, HTTP can't carry the page, or its origin sent a status from 400 on
abbrev pub reason_of : Result ℕ PageFault → ℕ → Option Reason
reason_of (Err fault) sent = Some (reason.Page fault)
reason_of (Ok status) sent = if nat_eq status sent then (if nat_le 400 status then Some reason.OriginStatus else None) else Some reason.Unsendable
