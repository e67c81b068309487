use Rattle.answer_sources.proofs.table_source.TableSource.TheSendSync as TableSource
use Rattle.shared_cache.proofs.Crossings.{caches_cross}
use Rattle.edge_bench.proofs.sharing.hits.Goals as goal

pub hits_told-requires-sync-S : goal.hits_told-requires-sync-S
hits_told-requires-sync-S g c κs within = search (TableSource.the_sync, caches_cross) depth 60 fits 20000
