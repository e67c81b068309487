-- Which inline of a template a URL names: our profile.
use Rattle.std.specs.Prelude.{ℕ, Bool, true, false, List, [], ◌∷◌, ◌++◌, bytes_eq, filter_map, Option, Some, None, if◌then◌else◌}
use Rattle.std.specs.Option.{option_or, option_map}
use Rattle.edge_types.specs.Asked.{resolve}
use Rattle.esi_tree.specs.Tree.{Element, Text, VarsText, Include, Choose, Try, Vars, Inline, Nothing, Elements, End, Then, Branches, NoBranch, When, Otherwise}

-- a text denotes this URL
abbrev pub is_url : List ℕ → Option (List ℕ) → Bool
is_url w None = false
is_url w (Some found) = bytes_eq found w

-- an inline with this name, in a template at the URL u, names w; no reference in a name is replaced
unfoldable pub names : List ℕ → List ℕ → List ℕ → Bool
names u w name = is_url w (resolve u name)

-- the content of the first inline, in text order, that names w in a template at the URL u; it counts wherever it
-- is, even in a branch that isn't taken
abbrev mutual
  pub inline_in : List ℕ → List ℕ → Element → Option Elements
  inline_in u w (Text text) = None
  inline_in u w (VarsText parts) = None
  inline_in u w (Include include) = None
  inline_in u w (Choose branches) = inline_in_branches u w branches
  inline_in u w (Try attempt except false) = option_or (inline_for u w attempt) (inline_for u w except)
  inline_in u w (Try attempt except true) = option_or (inline_for u w except) (inline_for u w attempt)
  inline_in u w (Vars content) = inline_for u w content
  inline_in u w (Inline name content) = if names u w name then Some content else inline_for u w content
  inline_in u w Nothing = None

  pub inline_for : List ℕ → List ℕ → Elements → Option Elements
  inline_for u w End = None
  inline_for u w (Then first rest) = option_or (inline_in u w first) (inline_for u w rest)

  pub inline_in_branches : List ℕ → List ℕ → Branches → Option Elements
  inline_in_branches u w NoBranch = None
  inline_in_branches u w (When test content rest) = option_or (inline_for u w content) (inline_in_branches u w rest)
  inline_in_branches u w (Otherwise content rest) = option_or (inline_for u w content) (inline_in_branches u w rest)

-- an inline of a template: its name, and its content
pub record NamedBody : Type 0 where
  pub name : List ℕ
  pub content : Elements

-- the inlines of a template in text order, those inside another after it
abbrev mutual
  pub inlines_in : Element → List NamedBody
  inlines_in (Text text) = []
  inlines_in (VarsText parts) = []
  inlines_in (Include include) = []
  inlines_in (Choose branches) = inlines_among branches
  inlines_in (Try attempt except false) = inlines attempt ++ inlines except
  inlines_in (Try attempt except true) = inlines except ++ inlines attempt
  inlines_in (Vars content) = inlines content
  inlines_in (Inline name content) = record { name = name; content = content } ∷ inlines content
  inlines_in Nothing = []

  pub inlines : Elements → List NamedBody
  inlines End = []
  inlines (Then first rest) = inlines_in first ++ inlines rest

  pub inlines_among : Branches → List NamedBody
  inlines_among NoBranch = []
  inlines_among (When test content rest) = inlines content ++ inlines_among rest
  inlines_among (Otherwise content rest) = inlines content ++ inlines_among rest

-- an inline whose name denotes a URL
pub record UrlBody : Type 0 where
  pub url : List ℕ
  pub content : Elements

abbrev pub with_url : List ℕ → NamedBody → Option UrlBody
with_url u inline = option_map (λ w. record { url = w; content = inline.content }) (resolve u inline.name)

-- the inlines of the template of the URL u with the tree t, each name resolved once; those that don't denote a URL are
-- left out
unfoldable pub inline_urls : List ℕ → Elements → List UrlBody
inline_urls u t = filter_map (with_url u) (inlines t)
