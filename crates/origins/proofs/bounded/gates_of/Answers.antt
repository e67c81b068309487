use Rattle.std.proofs.Common.{◌≡◌, ◌<◌, get_or, ◌∙◌, subst, below_more}
use Rattle.std.proofs.lemmas.List.{get_or_default}
use Rattle.origins.specs.declared.origin.Origin.{Origin}
use Rattle.origins.specs.Bounded as spec
use Rattle.origins.proofs.bounded.gates_of.Goals as goal

pub loop-origin-preserved : goal.loop-origin-preserved
loop-origin-preserved c = below_more _ _ earlier latest
  where
    earlier : (k : _) → k < c.loop-origin.origin-index → (d : Origin) → spec.HasGate c.add_gate.new.gates.items (get_or c.args.origins.now k d).address
    earlier k h d = c.add_gate.ensures.others _ (c.loop-origin.invariant k h d)

    latest : (d : Origin) → spec.HasGate c.add_gate.new.gates.items (get_or c.args.origins.now c.loop-origin.origin-index d).address
    latest d =
        let same : c.origin-item.result ≡ get_or c.args.origins.now c.loop-origin.origin-index d =
        c.origin-item.is ∙ get_or_default c.args.origins.now c.loop-origin.origin-index c.origin-item.result d c.loop-origin-test.true in
        subst (λ (o : Origin). spec.HasGate c.add_gate.new.gates.items o.address) same c.in_ok-add_gate.ensures.added
