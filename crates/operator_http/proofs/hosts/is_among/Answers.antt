use Rattle.std.proofs.Common.{rules, tests}
use Rattle.std.proofs.lemmas.Iterator.Splits.{YieldsList-from_slice_split}
use Rattle.std.proofs.lemmas.Iterator.Search.{any_from_yields_List}
use Rattle.operator_http.specs.Foreign.{is_among, is_comma, is_named}
use Rattle.operator_http.proofs.hosts.is_among.Goals as goal

pub returns : goal.returns
unfolding is_among
returns c = any_from_yields_List (is_named c.args.host.now) _ _ c.any.result c.any.ensures.ran (YieldsList-from_slice_split _ is_comma c.args.names.now c.split.ensures.rest c.split.ensures.done c.split.ensures.closure (λ x b q k. search (rules, tests))) (λ x b q k. search (rules, tests))
