use Rattle.std.specs.Arc.{arc_value}
use Rattle.fragment_cache.proofs.NameLemmas.{found_named}
use Rattle.fragment_cache.proofs.shard.Shard.look.Goals as goal

pub returns-clause-named : goal.returns-clause-named
returns-clause-named c = found_named arc_value c.self.inside.entries c.hit-found.new.self c.args.url.now c.args.now c.hit-found.result c.sound.ensures.named c.hit-found.ensures.ok
