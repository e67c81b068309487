use Rattle.std.proofs.Common.{◌≡◌, drop}
use Rattle.fragment_cache.proofs.PurgeLemmas.{without_all}
use Rattle.fragment_cache.proofs.entries.Entries.remove_all.Given as goal

abbrev pub invariant-loop-url : goal.invariant-loop-url
invariant-loop-url l =
    (without_all (drop l.url-index l.urls) l.self.entries ≡ without_all l.urls l.initial.self.entries)
    × (l.self.capacity ≡ l.initial.self.capacity)
