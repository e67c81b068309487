use Rattle.std.proofs.Common.{ℕ, List, Bool, rules, tests}
use Rattle.std.proofs.lemmas.Iterator.Splits.{YieldsList-from_slice_split}
use Rattle.std.proofs.lemmas.Iterator.Search.{all_from_yields_List}
use Rattle.edge_types.specs.Blanks.{trimmed}
use Rattle.edge_setup.specs.Lists.{is_comma}
use Rattle.edge_setup.specs.ToldFields.{are_told, may_tell}
use Rattle.edge_setup.proofs.told_fields.are_told.Goals as goal

pub returns : goal.returns
unfolding are_told
returns c =
    let test : List ℕ → Bool = λ name. may_tell (trimmed name) in
    all_from_yields_List test _ _ c.all.result c.all.ensures.ran (YieldsList-from_slice_split _ is_comma c.args.text.now c.split.ensures.rest c.split.ensures.done c.split.ensures.closure (λ x b q k. search (rules, tests))) (λ x b q k. search (rules, tests))
