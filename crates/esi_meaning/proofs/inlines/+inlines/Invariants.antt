use Rattle.std.proofs.Common.{◌≡◌, drop}
use Rattle.esi_tree.specs.Shown.{elements_of, branches_of}
use Rattle.esi_meaning.specs.Inlines.{inline_for, inline_in_branches}
use Rattle.esi_meaning.proofs.inlines.+inlines.Given as goal

abbrev pub invariant-inline_among-loop-node : goal.invariant-inline_among-loop-node
invariant-inline_among-loop-node l = inline_for l.base l.url (elements_of l.nodes) ≡ inline_for l.base l.url (elements_of (drop l.node-index l.nodes))

abbrev pub invariant-inline_in_branches-loop-branch : goal.invariant-inline_in_branches-loop-branch
invariant-inline_in_branches-loop-branch l =
    inline_in_branches l.base l.url (branches_of l.branches) ≡ inline_in_branches l.base l.url (branches_of (drop l.branch-index l.branches))
