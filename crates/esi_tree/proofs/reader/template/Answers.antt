use Rattle.std.proofs.Common.{◌+◌, ◌≤◌, Result, Ok, Err, IfOk}
use Rattle.esi_tree.specs.declared.fault.TreeFault.{TreeFault}
use Rattle.esi_tree.specs.declared.tree.Template.{Template}
use Rattle.esi_tree.specs.declared.open_elements.TheConstants.{OPEN_LIMIT}
use Rattle.esi_tree.specs.Tree.{depth}
use Rattle.esi_tree.specs.Answer.{tree_in}
use Rattle.esi_tree.proofs.reader.template.Goals as goal

shallow : (result : Result Template TreeFault) → IfOk result (λ template. depth (tree_in template) ≤ OPEN_LIMIT + 1)
shallow (Ok template) = template.shallow
shallow (Err fault) = tt

pub returns-clause-shallow : goal.returns-clause-shallow
returns-clause-shallow c = shallow c.template_of.result
