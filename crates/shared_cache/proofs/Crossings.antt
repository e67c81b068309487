-- Threads may share what a cache has, and what it has made ready.
use denote.Param.Send.{IsSend, IsSync, sendable}
use Rattle.std.proofs.Crossing
use Rattle.std.proofs.MapsCrossing
use Rattle.lru.proofs.cache.LruCache.TheSendSync as LruCache
use Rattle.edge_types.proofs.page_url.PageUrl.TheSendSync as PageUrl
use Rattle.answer_sources.proofs.Crossings.{prepared_send}
use Rattle.shared_cache.proofs.shards.Shards.TheSendSync as Shards
use Rattle.shared_cache.specs.contracts.plan_shelves.PlanShelf as plan_shelf
use Rattle.shared_cache.specs.contracts.plan_shelves.PlanShelves as plan_shelves

plan_shelf_send : IsSend plan_shelf.the_row
plan_shelf_send = search (LruCache.the_send, PageUrl.the_send, PageUrl.the_sync, prepared_send, MapsCrossing.crosses, Crossing.crosses, sendable) depth 60 fits 20000

pub plan_shelves_send : IsSend plan_shelves.the_row
plan_shelves_send = search (plan_shelf_send, Crossing.crosses, sendable) depth 60 fits 20000

pub plan_shelves_sync : IsSync plan_shelves.the_row
plan_shelves_sync = search (plan_shelf_send, Crossing.crosses, sendable) depth 60 fits 20000

-- for whoever shares a cache, beside what its source and its clock are
pub ruleset caches_cross = (plan_shelves_send, plan_shelves_sync, Shards.the_send, Shards.the_sync, Crossing.crosses, sendable)
