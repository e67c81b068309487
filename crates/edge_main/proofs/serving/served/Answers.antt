use denote.Param.Send.{sendable}
use Rattle.edge_reports.proofs.Crossings.{reports_send, reports_sync}
use Rattle.edge_main.proofs.serving.served.Goals as goal

pub serve_beside-requires-send-D : goal.serve_beside-requires-send-D
serve_beside-requires-send-D g c κs within = search (reports_send, sendable)

pub serve_beside-requires-sync-D : goal.serve_beside-requires-sync-D
serve_beside-requires-sync-D g c κs within = search (reports_sync, sendable)

pub serve_all-end-requires-sync-J : goal.serve_all-end-requires-sync-J
serve_all-end-requires-sync-J g c κs within = search (reports_sync, sendable)
