-- The members are those of the list, one after another.
use Rattle.std.proofs.Common.{rules, tests, ◌==◌}
use Rattle.std.proofs.lemmas.Iterator.Search.{any_from_yields_List}
use Rattle.std.proofs.lemmas.Iterator.Splits.{YieldsList-from_slice_split}
use Rattle.page_readers.specs.Validators.{is_tag}
use Rattle.page_readers.proofs.validators.names_tag.Goals as goal

pub returns : goal.returns
returns c =
    any_from_yields_List (λ member. is_tag c.args.tag.now member) _ _ c.any.result c.any.ensures.ran
    (YieldsList-from_slice_split _ (λ b. b == 44) c.args.list.now c.split.ensures.rest c.split.ensures.done c.split.ensures.closure (λ x b q k. search (rules, tests)))
    (λ x b q k. search (rules, tests))
