-- What is true of the machine.
use Rattle.std.specs.Prelude.{◌≡◌, ◌⊎◌, ℕ, zero, ◌+◌, ◌<◌, ◌≤◌, true, false, List, [], ◌++◌, length, Ok, Some, None}
use Rattle.edge_types.specs.declared.head.Head.{Head}
use Rattle.edge_types.specs.declared.request.Request.{Request}
use Rattle.edge_types.specs.Answered.{Answered, processed}
use Rattle.esi_tree.specs.Tree.{Elements}
use Rattle.esi_vars.specs.declared.part.Part.{Part}
use Rattle.esi_meaning.specs.Run.{Leg, Asks, Run, with_front}
use Rattle.esi_meaning.specs.Meaning.{page_run, text_outcome, most_legs}
use Rattle.esi_meaning.specs.State.{Waiting, Done, is_missing, state, waits_at}
use Rattle.esi_tree.specs.Reading.{tree_of}
use Rattle.edge_types.specs.declared.control.Control.{Control}
use Rattle.edge_types.specs.declared.answer.Reply.TheVariants.{Got}
use Rattle.edge_types.specs.declared.outcome.PageFault.TheVariants.{TooManyLegs}
use Rattle.edge_types.specs.Outcome.{Fault}
use Rattle.edge_types.specs.Table.{reply_of}
use Rattle.plan_compiler.specs.Bodies.{IsSingle}
use Rattle.plan_machine.specs.LastLeg.{last_url, tried_in}
use Rattle.plan_machine.specs.Progress.{weight, Ready}
use Rattle.plan_machine.specs.Rests.{text_so_far, still_to_come}
use Rattle.plan_compiler.specs.Plan.{Step}
use Rattle.plan_compiler.specs.Machine.{flow}
use Rattle.plan_machine.specs.Machine.{Machine, Went, Waits, TooMany, gone, step, after, start}

-- More answers don't disturb the steps that were made.
abbrev pub StepsStay : Type 0
StepsStay =
    (request : Request) (log more : List Answered) (steps : ℕ) (machine next : Machine) → after request log steps machine ≡ Some next → after request (log ++ more) steps machine ≡ Some next

-- Output from before a frame stays before the frame's own.
abbrev pub FlowAfter : Type 0
FlowAfter = (request : Request) (leg : List Part → Run) (steps : List Step) (front : List ℕ) → flow request leg zero steps [] front ≡ record { legs = (flow request leg zero steps [] []).legs; text = with_front front (flow request leg zero steps [] []).text }

-- After any number of steps the page's run is the legs that were tried, and then what is still to come.
abbrev pub ComesToTheSame : Type 0
ComesToTheSame =
    (request : Request) (log : List Answered) (levels : ℕ) (page : List ℕ) (tree : Elements) → IsSingle tree → (steps : ℕ) (machine : Machine) → after request log steps (start levels page tree) ≡ Some machine
    → (tried : List Leg) × (length tried ≡ machine.legs)
    × (page_run request log levels page tree ≡ record { legs = tried ++ (still_to_come request log machine).legs; text = (still_to_come request log machine).text })

-- the page at this URL has this answer in the log, and it is a template with this tree
pub record IsPage (log : List Answered) (page : List ℕ) (tree : Elements) (head : Head) : Type 0 where
  pub control : Control
  pub body : List ℕ
  pub logged : is_missing log page ≡ false
  pub reply : reply_of log page ≡ Got head control body
  pub is_template : processed (Got head control body) ≡ true
  pub is_tree : tree_of body ≡ Ok tree

-- If a machine stops that was started for a page, it reports the page's state.
abbrev pub WaitsAsStated : Type 0
WaitsAsStated =
    (request : Request) (log : List Answered) (levels : ℕ) (page : List ℕ) (tree : Elements) (head : Head) → IsPage log page tree head
    → (steps : ℕ) (machine : Machine) → after request log steps (start levels page tree) ≡ Some machine → (level : ℕ) (url : List ℕ) → step request log machine ≡ Waits level url
    → (state request log levels page ≡ Waiting url) × (waits_at request log levels page ≡ Some (Asks level url))

abbrev pub TooManyAsStated : Type 0
TooManyAsStated =
    (request : Request) (log : List Answered) (levels : ℕ) (page : List ℕ) (tree : Elements) (head : Head) → IsPage log page tree head
    → (steps : ℕ) (machine : Machine) → after request log steps (start levels page tree) ≡ Some machine → step request log machine ≡ TooMany → state request log levels page ≡ Done (Fault TooManyLegs)

abbrev pub EndsAsStated : Type 0
EndsAsStated =
    (request : Request) (log : List Answered) (levels : ℕ) (page : List ℕ) (tree : Elements) (head : Head) → IsPage log page tree head
    → (steps : ℕ) (machine : Machine) → after request log steps (start levels page tree) ≡ Some machine → machine.frames ≡ [] → state request log levels page ≡ Done (text_outcome head (text_so_far machine.failed machine.out))

-- A page that fails does so at the last leg that it tries, which is the one that its last step tried.
abbrev pub FailsAtTheLastLeg : Type 0
FailsAtTheLastLeg =
    (request : Request) (log : List Answered) (levels : ℕ) (page : List ℕ) (tree : Elements) → IsSingle tree
    → (steps : ℕ) (machine next : Machine) → after request log steps (start levels page tree) ≡ Some machine → step request log machine ≡ Went next → next.failed ≡ true
    → last_url (page_run request log levels page tree).legs ≡ last_url (tried_in request machine.frames)

-- Each step tries one more leg, of which there are few, or leaves less to do.
abbrev pub StepsFall : Type 0
StepsFall =
    (request : Request) (log : List Answered) (machine next : Machine) → Ready machine.failed machine.frames → step request log machine ≡ Went next
    → (((next.legs ≡ machine.legs) × (weight next.frames < weight machine.frames)) ⊎ ((next.legs ≡ machine.legs + 1) × (next.legs ≤ most_legs))) × Ready next.failed next.frames

-- Started over the same answers, a machine can come to rest after only one number of steps.
abbrev pub OneNumberOfSteps : Type 0
OneNumberOfSteps =
    (request : Request) (log : List Answered) (machine rested other : Machine) (steps more : ℕ) → after request log steps machine ≡ Some rested → gone (step request log rested) ≡ None → after request log more machine ≡ Some other → gone (step request log other) ≡ None → steps ≡ more
