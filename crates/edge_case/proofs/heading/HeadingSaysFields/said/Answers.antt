use Rattle.std.proofs.Common.{ℕ, None, map, slice_get, unwrap_or, sym, ap, ◌∙◌}
use Rattle.std.proofs.lemmas.Result.{IfOk-weaker}
use Rattle.std.specs.Option.{option_copied}
use Rattle.edge_case.specs.Case.{value_or_empty}
use Rattle.edge_case.proofs.Headings.{value_at}
use Rattle.edge_case.proofs.heading.HeadingSaysFields.said.Goals as goal

pub returns : goal.returns
returns c =
    let values = c.args.self.now.values in
    IfOk-weaker c.copy_of.result _ _ (λ value is.
    is ∙ c.lent_or_empty.ensures ∙ ap value_or_empty (sym (value_at values c.place.result))
    ∙ ap (λ (n : ℕ). value_or_empty (unwrap_or (slice_get (map option_copied values) n) None)) c.place.ensures.place) c.copy_of.ensures
