-- What contracts see of nodes: their trees, without where they lie in memory.
use Rattle.std.specs.Prelude.{List, [], ◌∷◌, map, Option, Some, None, option_map}
use Rattle.std.specs.Arc.{arc_value}
use Rattle.esi_expr.specs.Tree.{Test}
use Rattle.esi_expr.specs.Shown.{test_of}
use Rattle.esi_tree.specs.declared.node.Branch as code
use Rattle.esi_tree.specs.declared.node.Node.{Node}
use Rattle.esi_tree.specs.declared.node.Node.TheOpen as layer
use Rattle.esi_tree.specs.declared.node.Node.TheFolds.{fold-Node, fold-Branch}
use Rattle.esi_tree.specs.Tree as tree

-- elements one after another
abbrev pub row : List tree.Element → tree.Elements
row [] = tree.End
row (e ∷ es) = tree.Then e (row es)

-- a branch of a choose: a `when`, or the otherwise, which has no test
pub record Branch : Type 0 where
  pub test : Option Test
  pub content : tree.Elements

-- one branch before others
abbrev pub branch_before : Option Test → tree.Elements → tree.Branches → tree.Branches
branch_before None content rest = tree.Otherwise content rest
branch_before (Some test) content rest = tree.When test content rest

-- branches one after another
abbrev pub branch_row : List Branch → tree.Branches
branch_row [] = tree.NoBranch
branch_row (b ∷ bs) = branch_before b.test b.content (branch_row bs)

-- the element of a node, if those of the nodes in it are known
abbrev pub element_step : layer.Node-F tree.Element Branch → tree.Element
element_step (layer.Text text) = tree.Text text
element_step (layer.VarsText parts) = tree.VarsText parts
element_step (layer.Include include) = tree.Include include
element_step (layer.Choose branches) = tree.Choose (branch_row branches.items)
element_step (layer.Try attempt except swapped) = tree.Try (row attempt.items) (row except.items) swapped
element_step (layer.Vars content) = tree.Vars (row content.items)
element_step (layer.Inline name content) = tree.Inline name (row content.items)
element_step layer.Nothing = tree.Nothing

abbrev pub branch_step : layer.Branch-F tree.Element Branch → Branch
branch_step b = record { test = option_map (λ test. test_of (arc_value test)) b.test; content = row b.content.items }

-- the element of a node, and those of several
abbrev pub element_of : Node → tree.Element
element_of = fold-Node tree.Element Branch element_step branch_step

abbrev pub elements_of : List Node → tree.Elements
elements_of nodes = row (map element_of nodes)

-- a branch, and several
abbrev pub branch_of : code.Branch → Branch
branch_of = fold-Branch tree.Element Branch element_step branch_step

abbrev pub branches_of : List code.Branch → tree.Branches
branches_of bs = branch_row (map branch_of bs)
