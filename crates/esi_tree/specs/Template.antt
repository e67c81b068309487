-- Which items make a template, by cases on its tree.
use Rattle.std.specs.Prelude.{◌≡◌, ◌⊎◌, ℕ, ◌+◌, ◌-◌, ◌≤◌, max, Bool, true, false, List, [], ◌∷◌, ◌++◌, Some, if◌then◌else◌}
use Rattle.std.specs.List.{AllByRecursion}
use Rattle.esi_scanner.specs.declared.attribute.Attribute.{Attribute}
use Rattle.esi_scanner.specs.declared.element_name.ElementName.{ElementName}
use Rattle.esi_scanner.specs.declared.element_name.ElementName.TheVariants as element
use Rattle.esi_scanner.specs.declared.tag.Tag.{Tag}
use Rattle.esi_vars.specs.declared.part.Part.{Part}
use Rattle.esi_vars.specs.Parts.{parts_of}
use Rattle.esi_expr.specs.Tree.{Test}
use Rattle.esi_tree.specs.declared.open_elements.TheConstants.{OPEN_LIMIT}
use Rattle.esi_tree.specs.Tree as tree
use Rattle.esi_tree.specs.Tree.{Element, Elements, End, Then, Branches, NoBranch, When}
use Rattle.esi_tree.specs.Items.{Item, Text, Open, Close, Remove, Block}
use Rattle.esi_tree.specs.Attributes.{include_of, when_test, inline_name, is_white}

-- the items without the marks of blocks, which are skipped wherever they are
abbrev pub struck : List Item → List Item
struck [] = []
struck (Block ∷ items) = struck items
struck (item ∷ items) = item ∷ struck items

-- text of nothing but white space
abbrev pub IsWhite : Item → Type 0
IsWhite (Text bytes) = is_white bytes ≡ true
IsWhite _ = ⊥

-- nothing but such text
abbrev pub AreWhite : List Item → Type 0
AreWhite items = AllByRecursion IsWhite items

-- an opening tag, what is between it and its end, and its end; a closed tag has nothing between
pub record Encloses (name : ElementName) (items : List Item) (Content : List Attribute → List Item → Type 0) : Type 0 where
  pub tag : Tag
  pub content : List Item
  pub named : tag.name ≡ name
  pub fits : Content tag.attributes content
  pub shape :
      ((tag.closed ≡ true) × (content ≡ []) × (items ≡ Open tag ∷ []))
      ⊎ ((tag.closed ≡ false) × (items ≡ Open tag ∷ (content ++ Close name ∷ [])))

-- a front of which this holds, and a rest of which that holds
pub record Splits (items : List Item) (P Q : List Item → Type 0) : Type 0 where
  pub front : List Item
  pub back : List Item
  pub joined : items ≡ front ++ back
  pub first : P front
  pub second : Q back

-- white text before a part, and then a rest
abbrev pub AfterWhite : List Item → (List Item → Type 0) → (List Item → Type 0) → Type 0
AfterWhite items P Q = Splits items AreWhite (λ others. Splits others P Q)

-- text inside a `vars`, in parts
pub record IsVarsText (parts : List Part) (items : List Item) : Type 0 where
  pub bytes : List ℕ
  pub parts_are : parts_of bytes ≡ parts
  pub items_are : items ≡ Text bytes ∷ []

-- an element with this name around such content, which needs no attribute
abbrev pub IsPart : ElementName → (List Item → Type 0) → List Item → Type 0
IsPart name IsContent items = Encloses name items (λ _ content. IsContent content)

-- a `when` with this test around such content
abbrev pub IsWhen : Test → (List Item → Type 0) → List Item → Type 0
IsWhen test IsContent items = Encloses element.When items (λ attributes content. (when_test attributes ≡ Some test) × IsContent content)

-- at least one `when`
abbrev pub HasWhen : Branches → Type 0
HasWhen NoBranch = ⊥
HasWhen (When test content rest) = Unit {0}
HasWhen (tree.Otherwise content rest) = HasWhen rest

abbrev mutual
  -- these items are this element, where `vars` says whether a vars element is around it
  pub IsElement : Bool → Element → List Item → Type 0
  IsElement vars (tree.Text bytes) items = (vars ≡ false) × (items ≡ Text bytes ∷ [])
  IsElement vars (tree.VarsText parts) items = (vars ≡ true) × IsVarsText parts items
  IsElement vars (tree.Include include) items =
      Encloses element.Include items (λ attributes content. AreWhite content × (include_of attributes ≡ Some include))
  IsElement vars (tree.Choose branches) items = IsPart element.Choose (λ content. HasWhen branches × AreBranches vars true branches content) items
  IsElement vars (tree.Try attempt except false) items =
      IsPart element.Try (λ content. AfterWhite content (IsPart element.Attempt (IsRun vars attempt)) (λ rest. AfterWhite rest (IsPart element.Except (IsRun vars except)) AreWhite)) items
  IsElement vars (tree.Try attempt except true) items =
      IsPart element.Try (λ content. AfterWhite content (IsPart element.Except (IsRun vars except)) (λ rest. AfterWhite rest (IsPart element.Attempt (IsRun vars attempt)) AreWhite)) items
  IsElement vars (tree.Vars content) items = IsPart element.Vars (IsRun true content) items
  IsElement vars (tree.Inline name content) items =
      Encloses element.Inline items (λ attributes inner. (inline_name attributes ≡ Some name) × IsRun vars content inner)
  IsElement vars tree.Nothing items = (items ≡ Remove ∷ []) ⊎ IsPart element.Comment AreWhite items

  -- these items are these elements
  pub IsRun : Bool → Elements → List Item → Type 0
  IsRun vars End items = items ≡ []
  IsRun vars (Then first rest) items = Splits items (IsElement vars first) (IsRun vars rest)

  -- these items are these branches, where `free` says whether an otherwise may still come
  pub AreBranches : Bool → Bool → Branches → List Item → Type 0
  AreBranches vars free NoBranch items = AreWhite items
  AreBranches vars free (When test content rest) items = AfterWhite items (IsWhen test (IsRun vars content)) (AreBranches vars free rest)
  AreBranches vars free (tree.Otherwise content rest) items =
      (free ≡ true) × AfterWhite items (IsPart element.Otherwise (IsRun vars content)) (AreBranches vars false rest)

-- the most elements that are open at one place, if n are open before
abbrev pub open_at_most : ℕ → List Item → ℕ
open_at_most n [] = n
open_at_most n (Open tag ∷ items) = max (n + 1) (open_at_most (if tag.closed then n else n + 1) items)
open_at_most n (Close name ∷ items) = max n (open_at_most (n - 1) items)
open_at_most n (item ∷ items) = max n (open_at_most n items)

-- at no place more elements are open than may be
abbrev pub IsShallow : List Item → Type 0
IsShallow items = open_at_most 0 items ≤ OPEN_LIMIT

-- the items are the template of this tree
pub record IsTemplate (t : Elements) (items : List Item) : Type 0 where
  pub shape : IsRun false t (struck items)
  pub shallow : IsShallow items

-- the items can be continued to a template, not counting the depth of what is to come
pub record Begins (items : List Item) : Type 0 where
  pub more : List Item
  pub t : Elements
  pub shape : IsRun false t (struck (items ++ more))
  pub shallow : IsShallow items
