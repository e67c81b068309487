-- Why a request wasn't answered with a page as it should be, in words.
use Rattle.std.specs.Prelude.{ℕ, List, codes}
use Rattle.access_log.specs.declared.record.Reason.{Reason}
use Rattle.access_log.specs.declared.record.Reason.TheVariants as reason
use Rattle.edge_types.specs.Outcome as outcome

-- the reason's name
abbrev pub name_of : Reason → List ℕ
name_of (reason.Page fault) = outcome.name_of fault
name_of reason.Unsendable = codes "Unsendable"
name_of reason.OriginStatus = codes "OriginStatus"
name_of reason.Unreadable = codes "Unreadable"
name_of reason.Method = codes "Method"
name_of reason.Loop = codes "Loop"
name_of reason.NoRoom = codes "NoRoom"
