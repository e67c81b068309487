-- What the evaluator's arguments denote, in terms of the meaning.
use Rattle.std.specs.Prelude.{ℕ, suc, ◌+◌, ◌≤◌, List, [], Option, Some, None}
use Rattle.std.specs.Borrow.{Bor}
use Rattle.edge_types.specs.declared.head.Head.{Head}
use Rattle.edge_types.specs.declared.answer.Reply.{Reply}
use Rattle.edge_types.specs.Outcome.{Shown}
use Rattle.edge_types.specs.Table.{reply_of}
use Rattle.esi_vars.specs.declared.part.Part.{Part}
use Rattle.esi_tree.specs.declared.include.Include.{Include}
use Rattle.esi_tree.specs.declared.node.Node.{Node}
use Rattle.esi_tree.specs.declared.open_elements.TheConstants.{OPEN_LIMIT}
use Rattle.esi_tree.specs.Tree.{Element, Elements, Branches}
use Rattle.esi_tree.specs.Reading.{tree_of}
use Rattle.esi_tree.specs.Answer.{tree_in}
use Rattle.esi_tree.specs.Shown.{elements_of}
use Rattle.esi_meaning.specs.declared.evaluator.Setting.{Setting}
use Rattle.esi_meaning.specs.declared.evaluator.Standing.{Standing}
use Rattle.esi_meaning.specs.Meaning.{alternative_run, include_run, element_run, elements_run, chosen_run, template_run, reply_run, resolved_run, leg_run, reply_outcome, tree_outcome}
use Rattle.esi_meaning.specs.Run.{Asks, Run, gives, tries, or_else}

-- as deep as a template may be: its open elements, and one run of text in the innermost
abbrev pub FitsDepth : ℕ → Type 0
FitsDepth d = d ≤ OPEN_LIMIT + 1

-- a leg, several elements, one element
abbrev pub leg_at : Setting → Standing → List Part → Run
leg_at s here = leg_run s.request.now s.table.now here.level here.url.now (tree_in here.template.now)

abbrev pub elements_at : Setting → Standing → Elements → Run
elements_at s here nodes = elements_run s.request.now (leg_at s here) nodes

abbrev pub element_at : Setting → Standing → Element → Run
element_at s here node = element_run s.request.now (leg_at s here) node

-- the branch that is taken, and the attempt or what replaces it
abbrev pub choice_at : Setting → Standing → Branches → Run
choice_at s here branches = chosen_run s.request.now (leg_at s here) (gives (Some [])) branches

abbrev pub try_at : Setting → Standing → Elements → Elements → Run
try_at s here attempt except = or_else (elements_at s here attempt) (elements_at s here except)

-- what replaces an include whose src can't be fetched
abbrev pub alternative_at : Setting → Standing → Include → Run
alternative_at s here include = alternative_run (leg_at s here) include

abbrev pub include_at : Setting → Standing → Include → Run
include_at s here include = include_run (leg_at s here) include

-- the legs of a template with this many levels under it
abbrev pub below : Setting → ℕ → List ℕ → Elements → List Part → Run
below s level = leg_run s.request.now s.table.now level

-- a leg with this URL in this template, with as many levels below the leg as are left here
abbrev pub named_at : Setting → Standing → List ℕ → Run
named_at s here w = resolved_run s.request.now (below s here.level) s.table.now (suc here.level) here.url.now (tree_in here.template.now) (Some w)

-- the body of a fragment with this URL, processed
abbrev pub body_at : Setting → ℕ → List ℕ → List ℕ → Run
body_at s level w body = template_run s.request.now (below s level) w (tree_of body)

-- what its reply results in
abbrev pub reply_at : Setting → ℕ → List ℕ → Reply → Run
reply_at s level w reply = reply_run s.request.now (below s level) w reply

-- a leg with this URL that its origin is asked for
abbrev pub fetched_at : Setting → ℕ → List ℕ → Run
fetched_at s level w = tries (Asks (suc level) w) (reply_at s level w (reply_of s.table.now w))

-- the outcome of a page with this reply, and of one whose body is processed
abbrev pub answered_page : Setting → ℕ → List ℕ → Reply → Shown
answered_page s levels u reply = reply_outcome s.request.now s.table.now levels u reply

abbrev pub processed_page : Setting → ℕ → List ℕ → Head → List ℕ → Shown
processed_page s levels u head body = tree_outcome s.request.now s.table.now levels u head (tree_of body)

-- the elements that a slice lends, if there is one
abbrev pub shown_slice : Option (Bor (List Node)) → Option Elements
shown_slice None = None
shown_slice (Some nodes) = Some (elements_of nodes.now)
