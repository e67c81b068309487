use Rattle.fragment_cache.proofs.EntryLemmas.{sound-promoted, shelf-promoted}
use Rattle.fragment_cache.proofs.entries.Entries.promote.Goals as goal

pub invariant_of-self : goal.invariant_of-self
invariant_of-self c = sound-promoted c.args.url.now c.self.inside.cache c.make_newest.new.cache c.self.invariant c.make_newest.ensures c.check.ensures

pub returns : goal.returns
returns c = shelf-promoted c.args.url.now c.self.inside.cache c.make_newest.new.cache c.self.invariant c.make_newest.ensures c.args.self.now c.self.view_is
