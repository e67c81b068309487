-- What is true of every plan.
use Rattle.std.specs.Prelude.{◌≡◌, ℕ, ◌+◌, ◌-◌, ◌≤◌, List, [], length, take, drop, slice_get, Ok, Some}
use Rattle.std.specs.Option.{option_map}
use Rattle.edge_types.specs.declared.request.Request.{Request}
use Rattle.esi_vars.specs.declared.part.Part.{Part}
use Rattle.esi_tree.specs.Reading.{tree_of}
use Rattle.esi_tree.specs.Tree.{Elements}
use Rattle.esi_meaning.specs.Ahead.{ahead_sources}
use Rattle.esi_meaning.specs.Meaning.{elements_run}
use Rattle.esi_meaning.specs.Run.{Run}
use Rattle.esi_meaning.specs.Inlines.{inline_for}
use Rattle.plan_compiler.specs.declared.inline.Inline.{Inline}
use Rattle.plan_compiler.specs.Urls.{entry_for}
use Rattle.plan_compiler.specs.Ahead.{plan_sources}
use Rattle.plan_compiler.specs.Machine.{frame_run, flow_within}
use Rattle.plan_compiler.specs.Plan.{Step, Text, Values, Test, Jump, Try, EndTry, Leg}
use Rattle.plan_compiler.specs.Bodies.{IsSingle}
use Rattle.plan_compiler.specs.Code.{code_of}

-- The steps of a tree try the legs of its meaning and output its text, whatever a leg results in.
abbrev pub PlanMeansTheTree : Type 0
PlanMeansTheTree = (request : Request) (leg : List Part → Run) (tree : Elements) → frame_run request leg (code_of tree) ≡ elements_run request leg tree

-- The walk over the steps of a tree finds the sources that are fetched ahead for the tree, in their order.
abbrev pub PlanFetchesAhead : Type 0
PlanFetchesAhead = (request : Request) (tree : Elements) → plan_sources request (code_of tree) ≡ ahead_sources request tree

-- In the tree of a text no choose has two otherwises.
abbrev pub TemplatesAreSingle : Type 0
TemplatesAreSingle = (text : List ℕ) (tree : Elements) → tree_of text ≡ Ok tree → IsSingle tree

-- how many steps a step may skip
abbrev pub skip_of : Step → ℕ
skip_of (Text text) = 0
skip_of (Values parts) = 0
skip_of (Test test skip) = skip
skip_of (Jump skip) = skip
skip_of (Try skip) = skip
skip_of (EndTry skip) = skip
skip_of (Leg source) = 0

-- No step of a tree jumps past the end of its plan.
abbrev pub JumpsStay : Type 0
JumpsStay = (tree : Elements) (i : ℕ) (step : Step) → slice_get (code_of tree) i ≡ Some step → i + 1 + skip_of step ≤ length (code_of tree)

-- One frame takes at most as many steps as its plan is long: if that many are allowed it is never stopped, whatever
-- stopping would result in.
abbrev pub FramesAreShort : Type 0
FramesAreShort =
    (stopped : Run) (request : Request) (leg : List Part → Run) (steps : List Step)
    → flow_within stopped (length steps) request leg 0 steps [] [] ≡ frame_run request leg steps

-- The first entry, in text order, whose name denotes a URL has the steps of the inline that counts for the URL.
abbrev pub FirstEntryCounts : Type 0
FirstEntryCounts =
    (template url : List ℕ) (tree : Elements) → IsSingle tree
    → option_map code_of (inline_for template url tree)
    ≡ option_map (λ (entry : Inline). take (entry.end - entry.first) (drop entry.first (code_of tree))) (entry_for template url tree)
