-- What a reader of templates returns.
use Rattle.std.specs.Prelude.{◌≡◌, ℕ, Result, Ok, Err}
use Rattle.esi_tree.specs.declared.tree.Template.{Template}
use Rattle.esi_tree.specs.declared.fault.TreeFault.{TreeFault}
use Rattle.esi_tree.specs.declared.fault.TreeFault.TheVariants.{Bad, NoMemory}
use Rattle.esi_tree.specs.Tree as tree
use Rattle.esi_tree.specs.Shown.{elements_of}

-- the tree of a template
abbrev pub tree_in : Template → tree.Elements
tree_in template = elements_of template.nodes.items

-- a refusal reports the place that reading finds, unless memory ran out
abbrev pub Refuses : TreeFault → Result tree.Elements ℕ → Type 0
Refuses (Bad at) read = read ≡ Err at
Refuses NoMemory read = Unit {0}

-- what a reader of templates returned, unless memory ran out, is what reading yields
abbrev pub Gives : Result Template TreeFault → Result tree.Elements ℕ → Type 0
Gives (Ok template) read = read ≡ Ok (tree_in template)
Gives (Err fault) read = Refuses fault read
