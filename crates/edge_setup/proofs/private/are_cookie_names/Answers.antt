use Rattle.std.proofs.Common.{ℕ, List, Bool, rules, tests}
use Rattle.std.proofs.lemmas.Iterator.Splits.{YieldsList-from_slice_split}
use Rattle.std.proofs.lemmas.Iterator.Search.{all_from_yields_List}
use Rattle.edge_types.specs.Blanks.{trimmed}
use Rattle.edge_setup.specs.Lists.{is_comma}
use Rattle.edge_setup.specs.Private.{are_cookie_names, is_cookie_name}
use Rattle.edge_setup.proofs.private.are_cookie_names.Goals as goal

pub returns : goal.returns
unfolding are_cookie_names
returns c =
    let test : List ℕ → Bool = λ name. is_cookie_name (trimmed name) in
    all_from_yields_List test _ _ c.all.result c.all.ensures.ran (YieldsList-from_slice_split _ is_comma c.args.text.now c.split.ensures.rest c.split.ensures.done c.split.ensures.closure (λ x b q k. search (rules, tests))) (λ x b q k. search (rules, tests))
