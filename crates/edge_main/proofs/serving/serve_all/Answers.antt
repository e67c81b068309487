use Rattle.failed_answers.proofs.sparing_source.SparingSource.TheSendSync as SparingSource
use Rattle.hyper_source.proofs.source.HyperSource.TheSendSync as HyperSource
use Rattle.shared_cache.proofs.Crossings.{caches_cross}
use Rattle.edge_main.proofs.serving.serve_all.Goals as goal

pub serve_accepts-requires-send-S : goal.serve_accepts-requires-send-S
serve_accepts-requires-send-S g c κs within = search (SparingSource.the_send, HyperSource.the_send, caches_cross) depth 60 fits 20000

pub serve_accepts-requires-sync-S : goal.serve_accepts-requires-sync-S
serve_accepts-requires-sync-S g c κs within = search (SparingSource.the_sync, HyperSource.the_sync, caches_cross) depth 60 fits 20000
