use Rattle.std.proofs.Common.{◌≡◌, List, ℕ, Some, subst, rules}
use Rattle.fragment_cache.specs.Machine.{bridging}
use Rattle.fragment_cache.proofs.EntryLemmas.{bridging_named}
use Rattle.fragment_cache.proofs.shard.Shard.bridge.Goals as goal

pub returns-in-Ok-Some-clause-named : goal.returns-in-Ok-Some-clause-named
returns-in-Ok-Some-clause-named c =
    let is : bridging c.self.inside.entries.entries c.url.result.now c.args.now ≡ Some c.in-Ok-Some.found = search rules in
    subst (λ (url : List ℕ). c.in-Ok-Some.found.url ≡ url) c.url.ensures
    (bridging_named c.self.inside.entries.entries c.url.result.now c.args.now c.in-Ok-Some.found c.sound.ensures.named is)
