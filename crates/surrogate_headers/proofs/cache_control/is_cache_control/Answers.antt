use Rattle.std.proofs.Common.{List, ℕ, Bool, rules, tests}
use Rattle.std.proofs.lemmas.Iterator.Consumers.{YieldsList-from_first}
use Rattle.std.proofs.lemmas.Iterator.Search.{all_from_yields_List}
use Rattle.edge_types.specs.Blanks.{trimmed}
use Rattle.surrogate_headers.specs.Cut.{parts_of, parts_left}
use Rattle.surrogate_headers.specs.CacheControl.{is_element, is_cache_control}
use Rattle.surrogate_headers.proofs.cache_control.is_cache_control.Goals as goal

pub returns : goal.returns
unfolding is_cache_control
returns c =
    let test : List ℕ → Bool = λ part. is_element (trimmed part) in
    all_from_yields_List test _ _ c.all.result c.all.ensures.ran (YieldsList-from_first (λ x. x.now) parts_left (parts_of c.args.value.now) c.of.ensures) (λ x b q k. search (rules, tests))
