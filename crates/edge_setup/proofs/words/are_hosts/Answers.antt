use Rattle.std.proofs.Common.{rules, tests}
use Rattle.std.proofs.lemmas.Iterator.Splits.{YieldsList-from_slice_split}
use Rattle.std.proofs.lemmas.Iterator.Search.{all_from_yields_List}
use Rattle.edge_setup.specs.OriginWord.{is_name}
use Rattle.edge_setup.specs.Lists.{is_comma}
use Rattle.edge_setup.specs.Words.{are_hosts}
use Rattle.edge_setup.proofs.words.are_hosts.Goals as goal

pub returns : goal.returns
unfolding are_hosts
returns c = all_from_yields_List is_name _ _ c.all.result c.all.ensures.ran (YieldsList-from_slice_split _ is_comma c.args.text.now c.split.ensures.rest c.split.ensures.done c.split.ensures.closure (λ x b q k. search (rules, tests))) (λ x b q k. search (rules, tests))
