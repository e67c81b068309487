use Rattle.fragment_cache.proofs.EntryLemmas.{sound-removed, shelf-removed}
use Rattle.failed_answers.proofs.entries.Entries.remove.Goals as goal

pub invariant_of-self : goal.invariant_of-self
invariant_of-self c = sound-removed c.args.url.now c.self.inside.cache c.pop.new.self c.self.invariant c.pop.ensures.entries c.check.ensures

pub returns : goal.returns
returns c = shelf-removed c.args.url.now c.self.inside.cache c.pop.new.self c.self.invariant c.pop.ensures.entries c.args.self.now c.self.view_is
