use Rattle.std.proofs.Common.{◌≡◌, Some, ◌∙◌, ap, rules}
use Rattle.edge_types.specs.Answered.{Answered}
use Rattle.fragment_cache.specs.Machine.{bridging}
use Rattle.fragment_cache.proofs.EntryLemmas.{bridging_named}
use Rattle.fragment_cache.proofs.shard.Shard.bridging.Goals as goal

pub returns-in-Some-clause-named : goal.returns-in-Some-clause-named
returns-in-Some-clause-named c =
    let is : bridging c.self.inside.entries.entries c.args.url.now c.args.now ≡ Some c.in-Some.found = search rules in
    ap (λ (a : Answered). a.url) c.into_arc.ensures
    ∙ bridging_named c.self.inside.entries.entries c.args.url.now c.args.now c.in-Some.found c.sound.ensures.named is
