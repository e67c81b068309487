use Rattle.std.proofs.Common.{◌≡◌, filter, ◌∙◌, ap, rules}
use Rattle.std.specs.Map.{keys_of}
use Rattle.fragment_cache.specs.Machine.{Entries, begins}
use Rattle.fragment_cache.proofs.PurgeLemmas.{left_passing_of}
use Rattle.fragment_cache.proofs.entries.Entries.purge_prefix.Goals as goal

pub returns-clause-ok : goal.returns-clause-ok
returns-clause-ok c =
    let found : c.deref.result.now ≡ filter (begins c.args.prefix.now) (keys_of c.self.inside.cache.entries) = search rules in
    c.remove_all.ensures
    ∙ ap (λ (es : Entries). record { entries = es; capacity = c.args.self.now.capacity }) (left_passing_of (begins c.args.prefix.now) c.deref.result.now c.self.inside.cache.entries c.self.inside.cache.cap c.args.self.now found c.self.view_is)
