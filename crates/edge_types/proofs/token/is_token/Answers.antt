use Rattle.std.proofs.Common.{◌≡◌, ◌&&◌, rules, tests, length, sym, ap, ◌∙◌}
use Rattle.std.specs.List.{list_all}
use Rattle.std.proofs.lemmas.Bool.{lt-ltb}
use Rattle.std.proofs.Common.{arith, ◌<◌}
use Rattle.std.proofs.lemmas.Bool.Decides.{nat_tests}
use Rattle.std.proofs.lemmas.Iterator.{YieldsList-from_slice}
use Rattle.std.proofs.lemmas.Iterator.Search.{all_from_yields_List}
use Rattle.edge_types.specs.Token.{is_token_byte, is_token}
use Rattle.edge_types.proofs.token.is_token.Goals as goal

pub returns-then-not-is_empty : goal.returns-then-not-is_empty
unfolding is_token
returns-then-not-is_empty c =
    let text = c.args.text.now in
    let all : c.all.result ≡ list_all is_token_byte text = all_from_yields_List is_token_byte _ _ c.all.result c.all.ensures.ran (YieldsList-from_slice text c.iter.ensures.rest) (λ x b q k. search (rules, tests)) in
    let some : 0 < length text = grind (arith, nat_tests) in
    all ∙ sym (ap (λ t. t && list_all is_token_byte text) (lt-ltb 0 (length text) some))
