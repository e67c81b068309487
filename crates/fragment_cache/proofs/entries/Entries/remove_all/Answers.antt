use Rattle.std.proofs.Common.{sym, ◌∙◌}
use Rattle.std.proofs.lemmas.List.{at_drop_all}
use Rattle.fragment_cache.proofs.PurgeLemmas.{without_all, without_all-left, shelf_is}
use Rattle.fragment_cache.proofs.entries.Entries.remove_all.Goals as goal

pub returns : goal.returns
returns c =
    let none_left = at_drop_all (λ urls. without_all urls c.loop-url.self.entries) c.args.urls.now c.loop-url.url-index c.loop-url-test.false in
    shelf_is c.loop-url.self _ _ (sym none_left ∙ c.loop-url.invariant.0 ∙ without_all-left c.args.urls.now c.args.self.now.entries) c.loop-url.invariant.1
