use Rattle.std.proofs.Common.{List, ap, ◌∙◌}
use Rattle.esi_tree.specs.Answer.{tree_in}
use Rattle.esi_tree.specs.Shown.{elements_of}
use Rattle.plan_compiler.specs.Plan.{Step}
use Rattle.plan_compiler.specs.Ahead.{plan_sources}
use Rattle.plan_compiler.specs.Machine.{frame_run}
use Rattle.plan_compiler.proofs.Flow.{plan_means_the_tree}
use Rattle.plan_compiler.proofs.Sources.{plan_fetches_ahead}
use Rattle.plan_compiler.proofs.Single.{single_of_text}
use Rattle.plan_compiler.proofs.Bodies.{entries_made, entries_stand, steps_made}
use Rattle.plan_compiler.proofs.compiler.compile.Goals as goal

pub returns-clause-inlines : goal.returns-clause-inlines
returns-clause-inlines c =
    entries_stand (tree_in c.args.template.now) (elements_of c.nodes.result.now) _ _ _ _ _ _ _ c.nodes.ensures.tree c.new-later.ensures c.new-inlines.ensures
    c.in_ok-put_elements.ensures.steps c.in_ok-put_elements.ensures.inlines c.len.ensures c.into_steps.ensures c.in_ok-inlines.ensures
    (single_of_text (tree_in c.args.template.now) c.args.template.now.written)

pub returns-clause-entries : goal.returns-clause-entries
returns-clause-entries c =
    entries_made (tree_in c.args.template.now) (elements_of c.nodes.result.now) _ _ _ _ _ _ c.nodes.ensures.tree c.new-later.ensures c.new-inlines.ensures
    c.in_ok-put_elements.ensures.steps c.in_ok-put_elements.ensures.inlines c.len.ensures c.in_ok-inlines.ensures

pub returns-clause-means : goal.returns-clause-means
returns-clause-means c = λ r leg.
    let t = tree_in c.args.template.now in
    let e = steps_made t (elements_of c.nodes.result.now) _ _ _ c.nodes.ensures.tree c.new-later.ensures c.in_ok-put_elements.ensures.steps c.into_steps.ensures in
    ap (λ (ss : List Step). frame_run r leg ss) e ∙ plan_means_the_tree r leg t

pub returns-clause-ahead : goal.returns-clause-ahead
returns-clause-ahead c = λ r.
    let t = tree_in c.args.template.now in
    let e = steps_made t (elements_of c.nodes.result.now) _ _ _ c.nodes.ensures.tree c.new-later.ensures c.in_ok-put_elements.ensures.steps c.into_steps.ensures in
    ap (λ (ss : List Step). plan_sources r ss) e ∙ plan_fetches_ahead r t
