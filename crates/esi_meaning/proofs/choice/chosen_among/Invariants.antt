use Rattle.std.proofs.Common.{◌≡◌, drop}
use Rattle.esi_tree.specs.Shown.{elements_of, branches_of}
use Rattle.esi_tree.specs.Tree.{End}
use Rattle.esi_meaning.specs.Meaning.{chosen_content}
use Rattle.esi_meaning.proofs.choice.chosen_among.Given as goal

abbrev pub invariant-loop-branch : goal.invariant-loop-branch
invariant-loop-branch l =
    chosen_content l.request End (branches_of l.branches) ≡ chosen_content l.request (elements_of l.otherwise) (branches_of (drop l.branch-index l.branches))
