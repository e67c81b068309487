use Rattle.std.proofs.Common.{◌≡◌, Bool, refl, sym, ◌∙◌, rules, tests, List, ℕ, codes, bytes_eq}
use Rattle.std.specs.List.{list_any, slice_split}
use Rattle.std.proofs.lemmas.Iterator.Splits.{YieldsList-from_slice_split}
use Rattle.std.proofs.lemmas.Iterator.Search.{any_from_yields_List}
use Rattle.edge_types.specs.WhiteSpace.{is_ws}
use Rattle.surrogate_headers.specs.Parameter.{names_esi, words_of}
use Rattle.surrogate_headers.proofs.ParameterLemmas.{any_filled}
use Rattle.surrogate_headers.proofs.parameter.names_esi.Goals as goal

pub returns : goal.returns
unfolding names_esi words_of
returns c =
    let value = c.args.value.now in
    let test : List ℕ → Bool = λ word. bytes_eq word (codes "ESI/1.0") in
    let any : c.any.result ≡ list_any test (slice_split is_ws value) = any_from_yields_List test _ _ c.any.result c.any.ensures.ran (YieldsList-from_slice_split _ is_ws value c.split.ensures.rest c.split.ensures.done c.split.ensures.closure (λ x b q k. search (rules, tests))) (λ x b q k. search (rules, tests)) in
    any ∙ sym (any_filled test refl (slice_split is_ws value))
