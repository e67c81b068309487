-- The URLs that the sources of a template denote: those that are fetched ahead, and those that a log may have. Which
-- are fetched ahead is our profile.
use Rattle.std.specs.Prelude.{◌≡◌, ℕ, true, List, [], ◌∷◌, ◌++◌, filter_map, Any, Contains, Option, Some, None, Result, Ok, Err, if◌then◌else◌}
use Rattle.edge_types.specs.declared.request.Request.{Request}
use Rattle.edge_types.specs.Answered.{Answered, processed, body_of}
use Rattle.edge_types.specs.Asked.{resolve}
use Rattle.edge_types.specs.Table.{IsTable}
use Rattle.esi_vars.specs.declared.part.Part.{Part}
use Rattle.esi_vars.specs.Values.{substituted}
use Rattle.esi_expr.specs.Truth.{holds}
use Rattle.esi_tree.specs.declared.include.Include as code
use Rattle.esi_tree.specs.Tree.{Element, Text, VarsText, Include, Choose, Try, Vars, Inline, Nothing, Elements, End, Then, Branches, NoBranch, When, Otherwise}
use Rattle.esi_tree.specs.Reading.{tree_of}
use Rattle.esi_meaning.specs.Inlines.{inline_for}

-- an alt, where it is given
abbrev pub alt_sources : Option (List Part) → List (List Part)
alt_sources None = []
alt_sources (Some alt) = alt ∷ []

-- the sources of an include: its src, then its alt
abbrev pub include_sources : code.Include → List (List Part)
include_sources include = include.src ∷ alt_sources include.alt

-- the sources to fetch ahead: of each choose those of its branch that is taken, of each try those of its attempt, then
-- those of the except. An inline in a branch that isn't taken can still be reached by its name; its sources are asked
-- for when they are reached.
abbrev mutual
  pub ahead_in : Request → Element → List (List Part)
  ahead_in r (Text text) = []
  ahead_in r (VarsText parts) = []
  ahead_in r (Include include) = include_sources include
  ahead_in r (Choose branches) = ahead_among r [] branches
  ahead_in r (Try attempt except swapped) = ahead_sources r attempt ++ ahead_sources r except
  ahead_in r (Vars content) = ahead_sources r content
  ahead_in r (Inline name content) = ahead_sources r content
  ahead_in r Nothing = []

  pub ahead_sources : Request → Elements → List (List Part)
  ahead_sources r End = []
  ahead_sources r (Then first rest) = ahead_in r first ++ ahead_sources r rest

  pub ahead_among : Request → List (List Part) → Branches → List (List Part)
  ahead_among r otherwise NoBranch = otherwise
  ahead_among r otherwise (When test content rest) = if holds r test then ahead_sources r content else ahead_among r otherwise rest
  ahead_among r otherwise (Otherwise content rest) = ahead_among r (ahead_sources r content) rest

-- the URL, unless an inline names it
abbrev pub unless_inline : List ℕ → Option Elements → Option (List ℕ)
unless_inline w (Some content) = None
unless_inline w None = Some w

-- the URL that a leg with this URL, or with none, asks for in the template of the URL u with the tree t
abbrev pub asked_url : List ℕ → Elements → Option (List ℕ) → Option (List ℕ)
asked_url u t None = None
asked_url u t (Some w) = unless_inline w (inline_for u w t)

-- the URLs to fetch ahead for the template of the URL u with the tree t
unfoldable pub ahead : Request → List ℕ → Elements → List (List ℕ)
ahead r u t = filter_map (λ s. asked_url u t (resolve u (substituted r s))) (ahead_sources r t)

-- the URLs to fetch ahead for an answer: none if its body isn't processed or isn't a template
abbrev pub ahead_of_tree : Request → List ℕ → Result Elements ℕ → List (List ℕ)
ahead_of_tree r u (Ok t) = ahead r u t
ahead_of_tree r u (Err place) = []

unfoldable pub ahead_of : Request → Answered → List (List ℕ)
ahead_of r answer = if processed answer.reply then ahead_of_tree r answer.url (tree_of (body_of answer.reply)) else []

-- all sources of a template, including those in branches that aren't taken
abbrev mutual
  pub sources_in : Element → List (List Part)
  sources_in (Text text) = []
  sources_in (VarsText parts) = []
  sources_in (Include include) = include_sources include
  sources_in (Choose branches) = sources_among branches
  sources_in (Try attempt except swapped) = sources attempt ++ sources except
  sources_in (Vars content) = sources content
  sources_in (Inline name content) = sources content
  sources_in Nothing = []

  pub sources : Elements → List (List Part)
  sources End = []
  sources (Then first rest) = sources_in first ++ sources rest

  pub sources_among : Branches → List (List Part)
  sources_among NoBranch = []
  sources_among (When test content rest) = sources content ++ sources_among rest
  sources_among (Otherwise content rest) = sources content ++ sources_among rest

-- a source of the template of the URL u with the tree t denotes the URL w
pub record HasSource (r : Request) (u : List ℕ) (t : Elements) (w : List ℕ) : Type 0 where
  pub source : List Part
  pub stands : Contains (sources t) source
  pub is_url : resolve u (substituted r source) ≡ Some w

-- the answer's body is a template that is processed, and a source of it denotes the URL w
pub record LeadsTo (r : Request) (w : List ℕ) (answer : Answered) : Type 0 where
  pub t : Elements
  pub is_processed : processed answer.reply ≡ true
  pub is_tree : tree_of (body_of answer.reply) ≡ Ok t
  pub has_source : HasSource r answer.url t w

-- and no inline of this template names the URL: its leg there asks the origin for it
pub record AsksFor (r : Request) (w : List ℕ) (answer : Answered) : Type 0 where
  pub leads : LeadsTo r w answer
  pub unnamed : inline_for answer.url w leads.t ≡ None

-- the URL w may be asked for next, after these answers: the page's own is the first
abbrev pub MayFollow : Request → List ℕ → List Answered → List ℕ → Type 0
MayFollow r u [] w = w ≡ u
MayFollow r u (first ∷ more) w = Any (LeadsTo r w) (first ∷ more)

-- a log that a page at the URL u may have
pub record IsLegal (r : Request) (u : List ℕ) (log : List Answered) : Type 0 where
  pub once : IsTable log
  pub each : (front : List Answered) (answer : Answered) (back : List Answered) → log ≡ front ++ answer ∷ back → MayFollow r u front answer.url
