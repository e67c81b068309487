-- Threads may share where requests are reported.
use denote.Param.Send.{IsSend, IsSync, sendable}
use Rattle.std.proofs.Crossing
use Rattle.failed_answers.proofs.sparing_source.SparingSource.TheSendSync as SparingSource
use Rattle.hyper_source.proofs.source.HyperSource.TheSendSync as HyperSource
use Rattle.origins.proofs.notes.FetchNotes.TheSendSync as FetchNotes
use Rattle.access_log.proofs.queue.LineQueue.TheSendSync as LineQueue
use Rattle.edge_metrics.proofs.history.History.TheSendSync as History
use Rattle.shared_cache.proofs.Crossings.{caches_cross}
use Rattle.edge_reports.specs.contracts.measures.Measures as measures
use Rattle.edge_reports.specs.contracts.reports.Reports as reports

measures_send : IsSend measures.the_row
measures_send = search (History.the_send, Crossing.crosses, sendable) depth 60 fits 20000

measures_sync : IsSync measures.the_row
measures_sync = search (History.the_send, Crossing.crosses, sendable) depth 60 fits 20000

pub reports_send : IsSend reports.the_row
reports_send = search (measures_send, measures_sync, LineQueue.the_send, FetchNotes.the_send, FetchNotes.the_sync, SparingSource.the_send, SparingSource.the_sync, HyperSource.the_send, HyperSource.the_sync, caches_cross) depth 60 fits 20000

pub reports_sync : IsSync reports.the_row
reports_sync = search (measures_send, measures_sync, LineQueue.the_send, FetchNotes.the_send, FetchNotes.the_sync, SparingSource.the_send, SparingSource.the_sync, HyperSource.the_send, HyperSource.the_sync, caches_cross) depth 60 fits 20000
