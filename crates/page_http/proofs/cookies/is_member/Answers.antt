-- The members are those of the list, one after another.
use Rattle.std.proofs.Common.{rules, tests, ◌==◌, bytes_eq}
use Rattle.std.proofs.lemmas.Iterator.Search.{any_from_yields_List}
use Rattle.std.proofs.lemmas.Iterator.Splits.{YieldsList-from_slice_split}
use Rattle.edge_types.specs.Blanks.{trimmed}
use Rattle.page_http.specs.Cookies.{is_member}
use Rattle.page_http.proofs.cookies.is_member.Goals as goal

pub returns : goal.returns
unfolding is_member
returns c =
    any_from_yields_List (λ member. bytes_eq (trimmed member) c.args.name.now) _ _ c.any.result c.any.ensures.ran
    (YieldsList-from_slice_split _ (λ b. b == 44) c.args.names.now c.split.ensures.rest c.split.ensures.done c.split.ensures.closure (λ x b q k. search (rules, tests)))
    (λ x b q k. search (rules, tests))
