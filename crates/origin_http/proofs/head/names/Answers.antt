use Rattle.std.proofs.Common.{ℕ, List, Bool, rules, tests}
use Rattle.std.proofs.lemmas.Iterator.Splits.{YieldsList-from_slice_split}
use Rattle.std.proofs.lemmas.Iterator.Search.{any_from_yields_List}
use Rattle.origin_http.specs.Heads.{is_comma, is_word, names}
use Rattle.origin_http.proofs.head.names.Goals as goal

pub returns : goal.returns
unfolding names
returns c =
    let test : List ℕ → Bool = λ element. is_word c.args.word.now element in
    any_from_yields_List test _ _ c.any.result c.any.ensures.ran (YieldsList-from_slice_split _ is_comma c.args.list.now c.split.ensures.rest c.split.ensures.done c.split.ensures.closure (λ x b q k. search (rules, tests))) (λ x b q k. search (rules, tests))
