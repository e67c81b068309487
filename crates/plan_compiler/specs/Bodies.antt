-- The bodies of a plan that can be included by their names.
use Rattle.std.specs.Prelude.{◌≡◌, ℕ, ◌-◌, Bool, true, false, List, [], ◌∷◌, ◌++◌, length, map, take, drop, Option, Some, None, if◌then◌else◌}
use Rattle.esi_expr.specs.Tree as expr
use Rattle.esi_tree.specs.Tree as tree
use Rattle.esi_tree.specs.Tree.{Element, Elements, Branches}
use Rattle.esi_meaning.specs.Inlines.{NamedBody}
use Rattle.plan_compiler.specs.declared.later_inlines.Place.{Place}
use Rattle.plan_compiler.specs.declared.inline.Inline.{Inline}
use Rattle.plan_compiler.specs.Plan.{Step, Jump, EndTry}
use Rattle.plan_compiler.specs.Code.{code_of, chosen_code}

-- a body: its name, and its steps alone
pub record Body : Type 0 where
  pub name : List ℕ
  pub steps : List Step

-- the body of an entry of a plan with these steps
abbrev pub body_in : List Step → Inline → Body
body_in steps i = record { name = i.name; steps = take (i.end - i.first) (drop i.first steps) }

-- the body of an inline of a tree
abbrev pub body_of : NamedBody → Body
body_of b = record { name = b.name; steps = code_of b.content }

-- another branch is an otherwise
abbrev pub has_otherwise : Branches → Bool
has_otherwise tree.NoBranch = false
has_otherwise (tree.When test content rest) = has_otherwise rest
has_otherwise (tree.Otherwise content rest) = true

-- no choose has two otherwises: this is true of each template's tree
abbrev mutual
  pub IsSingleIn : Element → Type 0
  IsSingleIn (tree.Text text) = Unit {0}
  IsSingleIn (tree.VarsText parts) = Unit {0}
  IsSingleIn (tree.Include include) = Unit {0}
  IsSingleIn (tree.Choose branches) = AreSingle branches
  IsSingleIn (tree.Try attempt except swapped) = IsSingle attempt × IsSingle except
  IsSingleIn (tree.Vars content) = IsSingle content
  IsSingleIn (tree.Inline name content) = IsSingle content
  IsSingleIn tree.Nothing = Unit {0}

  pub IsSingle : Elements → Type 0
  IsSingle tree.End = Unit {0}
  IsSingle (tree.Then first rest) = IsSingleIn first × IsSingle rest

  pub AreSingle : Branches → Type 0
  AreSingle tree.NoBranch = Unit {0}
  AreSingle (tree.When test content rest) = IsSingle content × AreSingle rest
  AreSingle (tree.Otherwise content rest) = (has_otherwise rest ≡ false) × IsSingle content × AreSingle rest

-- the entry of a place in this many steps
abbrev pub inline_at : ℕ → Place → Inline
inline_at total p = record { name = p.name; first = total - p.from; end = total - p.behind }

-- the place of a body before these steps
abbrev pub place_before : List ℕ → List Step → List Step → Place
place_before name body later = record { name = name; from = length (body ++ later); behind = length later }

-- The places of a tree's inlines in text order, those inside another after it. `later` are the steps after the
-- tree's own.
abbrev mutual
  pub places_in : Element → List Step → List Place
  places_in (tree.Text text) later = []
  places_in (tree.VarsText parts) later = []
  places_in (tree.Include include) later = []
  places_in (tree.Choose branches) later = places_among branches [] later
  places_in (tree.Try attempt except false) later =
      places_of attempt (EndTry (length (code_of except)) ∷ code_of except ++ later) ++ places_of except later
  places_in (tree.Try attempt except true) later =
      places_of except later ++ places_of attempt (EndTry (length (code_of except)) ∷ code_of except ++ later)
  places_in (tree.Vars content) later = places_of content later
  places_in (tree.Inline name content) later = place_before name (code_of content) later ∷ places_of content later
  places_in tree.Nothing later = []

  pub places_of : Elements → List Step → List Place
  places_of tree.End later = []
  places_of (tree.Then first rest) later = places_in first (code_of rest ++ later) ++ places_of rest later

  pub places_among : Branches → List Step → List Step → List Place
  places_among tree.NoBranch otherwise later = []
  places_among (tree.When test content rest) otherwise later =
      places_of content (Jump (length (chosen_code otherwise rest)) ∷ chosen_code otherwise rest ++ later) ++ places_among rest otherwise later
  places_among (tree.Otherwise content rest) otherwise later =
      (if has_otherwise rest then [] else places_of content later) ++ places_among rest (code_of content) later

-- the entries of the plan of a tree: its inlines in text order
unfoldable pub entries : Elements → List Inline
entries t = map (inline_at (length (code_of t))) (places_of t [])

-- the places of a branch's inlines before later steps, of which the first n are the choose's, where those of the
-- otherwise are kept; and what is kept then
abbrev pub branch_places : Option expr.Test → Elements → ℕ → List Step → List Place → List Place
branch_places None content n later kept = kept
branch_places (Some test) content n later kept = places_of content (Jump n ∷ later)

abbrev pub kept_behind : Option expr.Test → List Place → List Place
kept_behind None kept = []
kept_behind (Some test) kept = kept
