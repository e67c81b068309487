use Rattle.std.proofs.Common.{ℕ, List, Bool, rules, tests}
use Rattle.std.proofs.lemmas.Iterator.Splits.{YieldsList-from_slice_split}
use Rattle.std.proofs.lemmas.Iterator.Search.{any_from_yields_List}
use Rattle.origin_http.specs.Heads.{is_comma, is_other, names_other}
use Rattle.origin_http.proofs.head.names_other.Goals as goal

pub returns : goal.returns
unfolding names_other
returns c =
    let test : List ℕ → Bool = λ element. is_other c.args.only.now element in
    any_from_yields_List test _ _ c.any.result c.any.ensures.ran (YieldsList-from_slice_split _ is_comma c.args.list.now c.split.ensures.rest c.split.ensures.done c.split.ensures.closure (λ x b q k. search (rules, tests))) (λ x b q k. search (rules, tests))
