use Rattle.fragment_cache.specs.Shown.{begun_answer}
use Rattle.fragment_cache.proofs.NameLemmas.{begins_named}
use Rattle.fragment_cache.proofs.shard.Shard.begin.Goals as goal

pub returns-clause-named : goal.returns-clause-named
returns-clause-named c = begins_named c.args.self.now c.start-begun.new.self c.args.url.now c.args.now (begun_answer c.start-begun.result) c.sound.ensures c.start-begun.ensures
