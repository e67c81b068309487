-- A template as a tree, without where it lies in memory.
use Rattle.std.specs.Prelude.{ℕ, ◌+◌, max, Bool, List}
use Rattle.esi_vars.specs.declared.part.Part.{Part}
use Rattle.esi_expr.specs.Tree.{Test}
use Rattle.esi_tree.specs.declared.include.Include as code

mutual
  -- one element, or a run of text
  pub data Element : Type 0 where
    Text : (text : List ℕ) → Element
    -- text inside a `vars`, in parts
    VarsText : (parts : List Part) → Element
    Include : (include : code.Include) → Element
    Choose : (branches : Branches) → Element
    -- `swapped`: the except comes before the attempt
    Try : (attempt : Elements) (except : Elements) (swapped : Bool) → Element
    Vars : (content : Elements) → Element
    Inline : (name : List ℕ) (content : Elements) → Element
    -- a comment or a remove
    Nothing : Element

  -- elements one after another
  pub data Elements : Type 0 where
    End : Elements
    Then : (first : Element) (rest : Elements) → Elements

  -- the branches of a choose, in text order, the otherwise among them
  pub data Branches : Type 0 where
    NoBranch : Branches
    When : (test : Test) (content : Elements) (rest : Branches) → Branches
    Otherwise : (content : Elements) (rest : Branches) → Branches

-- how many elements are in each other at the deepest place, a run of text counted as one
abbrev mutual
  pub element_depth : Element → ℕ
  element_depth (Text text) = 1
  element_depth (VarsText parts) = 1
  element_depth (Include include) = 1
  element_depth (Choose branches) = 1 + branches_depth branches
  element_depth (Try attempt except swapped) = 1 + max (depth attempt) (depth except)
  element_depth (Vars content) = 1 + depth content
  element_depth (Inline name content) = 1 + depth content
  element_depth Nothing = 1

  pub depth : Elements → ℕ
  depth End = 0
  depth (Then first rest) = max (element_depth first) (depth rest)

  pub branches_depth : Branches → ℕ
  branches_depth NoBranch = 0
  branches_depth (When test content rest) = max (depth content) (branches_depth rest)
  branches_depth (Otherwise content rest) = max (depth content) (branches_depth rest)
