use Rattle.std.proofs.Common.{◌+◌, ◌*◌, max, drop}
use Rattle.esi_tree.specs.Tree.{depth, element_depth, branches_depth}
use Rattle.esi_tree.specs.Shown.{element_of, elements_of, branches_of}
use Rattle.esi_meaning.specs.Meaning.{elements_run}
use Rattle.esi_meaning.specs.Evaluator.{leg_at}
use Rattle.esi_meaning.proofs.Endings.{Leaves}
use Rattle.esi_meaning.proofs.evaluator.+evaluator.Given as goal

-- A level counts for more than any template is deep.
abbrev pub decreases-element : goal.decreases-element
decreases-element l = 3 * (40 * l.standing.level + element_depth (element_of l.node.now)) + 1

abbrev pub decreases-elements : goal.decreases-elements
decreases-elements l = 3 * (40 * l.standing.level + depth (elements_of l.nodes.now)) + 2

abbrev pub decreases-choose : goal.decreases-choose
decreases-choose l = 3 * (40 * l.standing.level + branches_depth (branches_of l.branches.now)) + 3

abbrev pub decreases-one_of : goal.decreases-one_of
decreases-one_of l = 3 * (40 * l.standing.level + max (depth (elements_of l.attempt.now)) (depth (elements_of l.except.now))) + 3

-- An include is one element.
abbrev pub decreases-include : goal.decreases-include
decreases-include l = 3 * (40 * l.standing.level) + 3

abbrev pub decreases-alternative : goal.decreases-alternative
decreases-alternative l = 3 * (40 * l.standing.level) + 2

abbrev pub decreases-leg : goal.decreases-leg
decreases-leg l = 3 * (40 * l.standing.level) + 1

abbrev pub decreases-named : goal.decreases-named
decreases-named l = 3 * (40 * l.standing.level + 33) + 6

abbrev pub decreases-inlined : goal.decreases-inlined
decreases-inlined l = 3 * (40 * l.standing.level + 33) + 5

abbrev pub decreases-fetched : goal.decreases-fetched
decreases-fetched l = 3 * (40 * l.level + 33) + 5

abbrev pub decreases-answered : goal.decreases-answered
decreases-answered l = 3 * (40 * l.level + 33) + 4

abbrev pub decreases-processed : goal.decreases-processed
decreases-processed l = 3 * (40 * l.level + 33) + 3

abbrev pub invariant-elements-loop-node : goal.invariant-elements-loop-node
invariant-elements-loop-node l =
    Leaves (elements_run l.setting.request.now (leg_at l.setting l.standing) (elements_of l.nodes))
    (elements_run l.setting.request.now (leg_at l.setting l.standing) (elements_of (drop l.node-index l.nodes)))
    l.fn.draft l.draft
