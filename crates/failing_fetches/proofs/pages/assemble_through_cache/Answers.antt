use Rattle.answer_sources.proofs.table_source.TableSource.TheSendSync as TableSource
use Rattle.shared_cache.proofs.Crossings.{caches_cross}
use Rattle.failing_fetches.proofs.pages.assemble_through_cache.Goals as goal

pub assemble_and_fetch-requires-sync-S : goal.assemble_and_fetch-requires-sync-S
assemble_and_fetch-requires-sync-S g c κs within = search (TableSource.the_sync, caches_cross) depth 60 fits 20000
