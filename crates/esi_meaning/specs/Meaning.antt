-- The sequential meaning of a page: what each element outputs, which legs it tries, and the outcome. What an element
-- outputs is that of the ESI Language Specification 1.0; that branches and the parts of a try come in any order, that
-- an inline is processed in its place, levels, the count of legs and the order of the faults are our profile.
use Rattle.std.specs.Prelude.{ℕ, zero, suc, ◌≤◌, Bool, true, false, nat_lt, List, [], ◌∷◌, length, take, Option, Some, None, Result, Ok, Err, if◌then◌else◌}
use Rattle.edge_types.specs.declared.head.Head.{Head}
use Rattle.edge_types.specs.declared.request.Request.{Request}
use Rattle.edge_types.specs.declared.answer.Reply.{Reply}
use Rattle.edge_types.specs.declared.answer.Reply.TheVariants.{Failed, Got}
use Rattle.edge_types.specs.declared.outcome.PageFault.TheVariants.{PageFetch, BadTemplate, IncludeFailed, TooManyLegs}
use Rattle.edge_types.specs.Answered.{Answered, succeeded, processed, processed_as_fragment, body_of}
use Rattle.edge_types.specs.Asked.{resolve}
use Rattle.edge_types.specs.Table.{reply_of}
use Rattle.edge_types.specs.Outcome.{Shown, Page, Fault}
use Rattle.esi_vars.specs.declared.part.Part.{Part}
use Rattle.esi_vars.specs.Values.{substituted}
use Rattle.esi_expr.specs.Truth.{holds}
use Rattle.esi_tree.specs.declared.include.OnError.{OnError}
use Rattle.esi_tree.specs.declared.include.OnError.TheVariants.{Fails, Continues}
use Rattle.esi_tree.specs.declared.include.Include as code
use Rattle.esi_tree.specs.Tree.{Element, Text, VarsText, Include, Choose, Try, Vars, Inline, Nothing, Elements, End, Then, Branches, NoBranch, When, Otherwise}
use Rattle.esi_tree.specs.Reading.{tree_of}
use Rattle.esi_meaning.specs.declared.limits.TheConstants.{MAX_LEGS, MIN_LEVELS, MAX_LEVELS}
use Rattle.esi_meaning.specs.Inlines.{inline_for}
use Rattle.esi_meaning.specs.Run.{Leg, Asks, AsksNobody, Run, gives, tries, in_turn, or_else}

-- What the elements output, where `leg` says what a `src` or an `alt` results in.

-- an alt, if it is given
abbrev pub alt_run : (List Part → Run) → Option (List Part) → Run
alt_run leg None = gives None
alt_run leg (Some alt) = leg alt

-- an include that can't be fetched
abbrev pub on_error : OnError → Run
on_error Continues = gives (Some [])
on_error Fails = gives None

-- what stands for an include whose src can't be had
abbrev pub alternative_run : (List Part → Run) → code.Include → Run
alternative_run leg include = or_else (alt_run leg include.alt) (on_error include.on_error)

abbrev pub include_run : (List Part → Run) → code.Include → Run
include_run leg include = or_else (leg include.src) (alternative_run leg include)

abbrev mutual
  -- one element: "include", "choose", "try", "vars", "inline", "comment", "remove"
  pub element_run : Request → (List Part → Run) → Element → Run
  element_run r leg (Text text) = gives (Some text)
  element_run r leg (VarsText parts) = gives (Some (substituted r parts))
  element_run r leg (Include include) = include_run leg include
  element_run r leg (Choose branches) = chosen_run r leg (gives (Some [])) branches
  element_run r leg (Try attempt except swapped) = or_else (elements_run r leg attempt) (elements_run r leg except)
  element_run r leg (Vars content) = elements_run r leg content
  element_run r leg (Inline name content) = elements_run r leg content
  element_run r leg Nothing = gives (Some [])

  -- elements one after another
  pub elements_run : Request → (List Part → Run) → Elements → Run
  elements_run r leg End = gives (Some [])
  elements_run r leg (Then first rest) = in_turn (element_run r leg first) (elements_run r leg rest)

  -- the first `when` whose test holds, else the otherwise, wherever it is
  pub chosen_run : Request → (List Part → Run) → Run → Branches → Run
  chosen_run r leg otherwise NoBranch = otherwise
  chosen_run r leg otherwise (When test content rest) =
      if holds r test then elements_run r leg content else chosen_run r leg otherwise rest
  chosen_run r leg otherwise (Otherwise content rest) = chosen_run r leg (elements_run r leg content) rest

-- the content of the branch that is taken
abbrev pub chosen_content : Request → Elements → Branches → Elements
chosen_content r otherwise NoBranch = otherwise
chosen_content r otherwise (When test content rest) = if holds r test then content else chosen_content r otherwise rest
chosen_content r otherwise (Otherwise content rest) = chosen_content r content rest

-- an answer that isn't processed: its body as it is, if the fetch succeeded
abbrev pub unprocessed_run : Reply → Run
unprocessed_run reply = gives (if succeeded reply then Some (body_of reply) else None)

-- A leg, one level down: `below` says what the legs of a template of the URL and the tree result in.
module _ (r : Request) (below : List ℕ → Elements → List Part → Run) where
  -- A text of the URL w, processed. Which tree a text has is said by esi_tree's `Template`; its law `ReadsTexts` says
  -- that `tree_of` reads just this tree.
  abbrev pub template_run : List ℕ → Result Elements ℕ → Run
  template_run w (Ok t) = elements_run r (below w t) t
  template_run w (Err place) = gives None

  -- what an origin's reply results in
  abbrev pub reply_run : List ℕ → Reply → Run
  reply_run w reply = if processed_as_fragment reply then template_run w (tree_of (body_of reply)) else unprocessed_run reply

  -- a leg with the URL w in the template of the URL u with the tree t: the content of an inline of this template, for
  -- which nothing is fetched, or else what the origin replies; the leg is tried at level n
  abbrev pub named_run : List Answered → ℕ → List ℕ → Elements → List ℕ → Option Elements → Run
  named_run T n u t w (Some content) = tries AsksNobody (elements_run r (below u t) content)
  named_run T n u t w None = tries (Asks n w) (reply_run w (reply_of T w))

  -- a leg with this URL, or with none
  abbrev pub resolved_run : List Answered → ℕ → List ℕ → Elements → Option (List ℕ) → Run
  resolved_run T n u t None = tries AsksNobody (gives None)
  resolved_run T n u t (Some w) = named_run T n u t w (inline_for u w t)

-- the leg s at level n, in the template of the URL u with the tree t
abbrev pub leg_run : Request → List Answered → ℕ → List ℕ → Elements → List Part → Run
leg_run r T zero u t s = tries AsksNobody (gives None)
leg_run r T (suc n) u t s = resolved_run r (leg_run r T n) T (suc n) u t (resolve u (substituted r s))

-- the page's tree, at level n
abbrev pub page_run : Request → List Answered → ℕ → List ℕ → Elements → Run
page_run r T n u t = elements_run r (leg_run r T n u t) t

-- the page's text under its head
abbrev pub text_outcome : Head → Option (List ℕ) → Shown
text_outcome head None = Fault IncludeFailed
text_outcome head (Some text) = Page head text

-- too many legs are reported before a failure
abbrev pub run_outcome : ℕ → Head → Run → Shown
run_outcome limit head run =
    if nat_lt limit (length run.legs) then Fault TooManyLegs else text_outcome head run.text

-- the most legs that a page may try
unfoldable pub most_legs : ℕ
most_legs = MAX_LEGS

-- the URLs that legs ask for
abbrev pub urls : List Leg → List (List ℕ)
urls [] = []
urls (Asks n w ∷ legs) = w ∷ urls legs
urls (AsksNobody ∷ legs) = urls legs

module _ (r : Request) (T : List Answered) (L : ℕ) (u : List ℕ) where
  -- The legs of a page, if it is processed and a template.
  abbrev pub tree_legs : Result Elements ℕ → List Leg
  tree_legs (Ok t) = (page_run r T L u t).legs
  tree_legs (Err place) = []

  abbrev pub reply_legs : Reply → List Leg
  reply_legs reply = if processed reply then tree_legs (tree_of (body_of reply)) else []

  abbrev pub tree_outcome : Head → Result Elements ℕ → Shown
  tree_outcome head (Ok t) = run_outcome most_legs head (page_run r T L u t)
  tree_outcome head (Err place) = Fault (BadTemplate place)

  abbrev pub reply_outcome : Reply → Shown
  reply_outcome Failed = Fault PageFetch
  reply_outcome (Got head control body) =
      if processed (Got head control body) then tree_outcome head (tree_of body)
      else Page head body

  -- the outcome of the page at the URL u, for the request r over the table T, with L levels
  unfoldable pub outcome : Shown
  outcome = reply_outcome (reply_of T u)

  -- the first of its legs, at most as many as a page may try
  abbrev pub page_legs : List Leg
  page_legs = take most_legs (reply_legs (reply_of T u))

  -- the URLs that the outcome depends on: the page's, and those that these legs ask for
  unfoldable pub asked : List (List ℕ)
  asked = u ∷ urls page_legs

-- a number of levels under a page
pub record AreLevels (levels : ℕ) : Type 0 where
  pub some : MIN_LEVELS ≤ levels
  pub few : levels ≤ MAX_LEVELS
