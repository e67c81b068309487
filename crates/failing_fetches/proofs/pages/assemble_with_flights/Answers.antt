use Rattle.answer_sources.proofs.table_source.TableSource.TheSendSync as TableSource
use Rattle.shared_cache.proofs.Crossings.{caches_cross}
use Rattle.failing_fetches.proofs.pages.assemble_with_flights.Goals as goal

pub assemble-made-requires-sync-S : goal.assemble-made-requires-sync-S
assemble-made-requires-sync-S g c κs within = search (TableSource.the_sync, caches_cross) depth 60 fits 20000
