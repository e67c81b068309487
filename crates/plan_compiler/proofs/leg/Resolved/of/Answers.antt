use Rattle.std.proofs.Common.{List, ℕ, ap, sym, ◌∙◌}
use Rattle.edge_types.specs.Asked.{resolve}
use Rattle.esi_vars.specs.Values.{substituted}
use Rattle.plan_compiler.proofs.LegLemmas.{text_alone}
use Rattle.plan_compiler.proofs.leg.Resolved.of.Goals as goal

pub returns-in_ok-share-in-Some : goal.returns-in_ok-share-in-Some
returns-in_ok-share-in-Some c r =
    ap (λ (base : List ℕ). resolve base (substituted r c.args.source.now)) c.in_ok-share-in-Some.ensures
    ∙ ap (resolve c.args.base.now) (text_alone c.args.source.now c.part-item.result _ _ c.in-len1.len_at_least c.in-len1.len_below c.part-item.is c.in-Text.is r ∙ sym c.as_bytes.ensures)
    ∙ sym c.in_ok-url.ensures
    ∙ c.in-Some.is
