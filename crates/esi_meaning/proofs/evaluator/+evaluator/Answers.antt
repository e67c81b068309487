use Rattle.esi_tree.specs.Shown.{elements_of}
use Rattle.esi_meaning.specs.Meaning.{elements_run}
use Rattle.esi_meaning.specs.Evaluator.{leg_at}
use Rattle.esi_meaning.proofs.Endings.{leaves-next}
use Rattle.esi_meaning.proofs.evaluator.+evaluator.Goals as goal

pub elements-loop-node-preserved : goal.elements-loop-node-preserved
elements-loop-node-preserved t c =
    let leg = leg_at c.args.setting.now c.args.standing in
    leaves-next c.args.setting.now.request.now leg (elements_run c.args.setting.now.request.now leg (elements_of c.args.nodes.now)) c.args.draft.now c.loop-node.draft c.element.new.draft
    c.args.nodes.now c.loop-node.node-index c.node-item.result c.in_ok-element.field-0 c.loop-node-test.true c.node-item.is c.loop-node.invariant c.in_ok-element.ensures c.in-Complete.is
