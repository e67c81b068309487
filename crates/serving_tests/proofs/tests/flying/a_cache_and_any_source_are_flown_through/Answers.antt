use Rattle.answer_sources.proofs.table_source.TableSource.TheSendSync as TableSource
use Rattle.shared_cache.proofs.Crossings.{caches_cross}
use Rattle.serving_tests.proofs.tests.flying.a_cache_and_any_source_are_flown_through.Goals as goal

pub body_of-requires-sync-S : goal.body_of-requires-sync-S
body_of-requires-sync-S g c = search (TableSource.the_sync, caches_cross) depth 60 fits 20000
