use Rattle.answer_sources.proofs.table_source.TableSource.TheSendSync as TableSource
use Rattle.shared_cache.proofs.Crossings.{caches_cross}
use Rattle.serving_tests.proofs.tests.behalf.kept_templates_go_with_their_answers.Goals as goal

pub push_pages-requires-sync-S : goal.push_pages-requires-sync-S
push_pages-requires-sync-S g c κs within = search (TableSource.the_sync, caches_cross) depth 60 fits 20000

pub push_pages-requires-in-Some-sync-S : goal.push_pages-requires-in-Some-sync-S
push_pages-requires-in-Some-sync-S g c κs within = search (TableSource.the_sync, caches_cross) depth 60 fits 20000

pub push_pages-requires-in-Some-2-sync-S : goal.push_pages-requires-in-Some-2-sync-S
push_pages-requires-in-Some-2-sync-S g c κs within = search (TableSource.the_sync, caches_cross) depth 60 fits 20000

pub push_pages-requires-2-sync-S : goal.push_pages-requires-2-sync-S
push_pages-requires-2-sync-S g c κs within = search (TableSource.the_sync, caches_cross) depth 60 fits 20000
