use Rattle.std.proofs.Common.{rules}
use Rattle.fragment_cache.proofs.EntryLemmas.{promoted-newest}
use Rattle.fragment_cache.proofs.entries.is_newest.Goals as goal

pub returns-in-Some : goal.returns-in-Some
returns-in-Some c = λ is. promoted-newest c.args.url.now c.args.cache.now.entries (c.in-Some.newest.now, c.in-Some.field-0-1.now) (search rules) (search rules)
