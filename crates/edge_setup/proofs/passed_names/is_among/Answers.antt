use Rattle.std.proofs.Common.{◌∙◌, Bool, Bor, rules, tests}
use Rattle.std.specs.Str.{str_eq_ignore_ascii_case}
use Rattle.std.proofs.lemmas.Iterator.{YieldsList-from_slice}
use Rattle.std.proofs.lemmas.Iterator.Search.{any_from_yields_List}
use Rattle.clap.proofs.WalkLemmas.{list_any-map}
use Rattle.clap.specs.Words.{Text}
use Rattle.edge_setup.proofs.passed_names.is_among.Goals as goal

pub returns : goal.returns
returns c =
    let test : Text → Bool = str_eq_ignore_ascii_case c.args.name.now in
    any_from_yields_List (λ (known : Bor Text). test known.now) _ _ c.any.result c.any.ensures.ran (YieldsList-from_slice c.args.names.now c.iter.ensures.rest) (λ x b q k. search (rules, tests))
    ∙ list_any-map test (λ (known : Bor Text). known.now) c.args.names.now
