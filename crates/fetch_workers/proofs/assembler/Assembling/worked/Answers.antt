use denote.Param.Send.{sendable}
use Rattle.fetch_workers.proofs.Crossings.{shared_desk_sync}
use Rattle.fetch_workers.proofs.assembler.Assembling.worked.Goals as goal

pub work_with_others-requires-sync-D : goal.work_with_others-requires-sync-D
work_with_others-requires-sync-D g c κs within = search (shared_desk_sync, sendable)
