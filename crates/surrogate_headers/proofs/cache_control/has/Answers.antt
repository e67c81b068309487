use Rattle.std.proofs.Common.{List, ℕ, Bool, rules, tests}
use Rattle.std.specs.Prelude.{is_some}
use Rattle.std.proofs.lemmas.Iterator.Consumers.{YieldsList-from_first}
use Rattle.std.proofs.lemmas.Iterator.Search.{any_from_yields_List}
use Rattle.surrogate_headers.specs.Cut.{parts_of, parts_left}
use Rattle.surrogate_headers.specs.CacheControl.{said, has}
use Rattle.surrogate_headers.proofs.cache_control.has.Goals as goal

pub returns : goal.returns
unfolding has
returns c =
    let test : List ℕ → Bool = λ part. is_some (said c.args.name.now part) in
    any_from_yields_List test _ _ c.any.result c.any.ensures.ran (YieldsList-from_first (λ x. x.now) parts_left (parts_of c.args.value.now) c.of.ensures) (λ x b q k. search (rules, tests))
