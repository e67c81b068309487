use Rattle.answer_sources.proofs.table_source.TableSource.TheSendSync as TableSource
use Rattle.shared_cache.proofs.Crossings.{caches_cross}
use Rattle.serving_tests.proofs.tests.caching.crowd.Goals as goal

pub none_is_wrong-requires-sync-S : goal.none_is_wrong-requires-sync-S
none_is_wrong-requires-sync-S g c κs within = search (TableSource.the_sync, caches_cross) depth 60 fits 20000
