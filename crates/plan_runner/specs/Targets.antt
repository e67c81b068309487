-- What a leg leads to.
use Rattle.std.specs.Prelude.{ℕ, zero, suc, ◌-◌, List, [], ◌∷◌, Option, Some, None}
use Rattle.edge_types.specs.declared.request.Request.{Request}
use Rattle.edge_types.specs.Answered.{Answered}
use Rattle.edge_types.specs.Asked.{resolve}
use Rattle.edge_types.specs.Table.{answer_of}
use Rattle.esi_vars.specs.declared.part.Part.{Part}
use Rattle.esi_vars.specs.Values.{substituted}
use Rattle.plan_compiler.specs.declared.inline.Inline.{Inline}
use Rattle.plan_compiler.specs.Urls.{entry_among}
use Rattle.answer_board.specs.Board.{State, answer_at}
use Rattle.plan_runner.specs.declared.leg.Target as code
use Rattle.plan_runner.specs.declared.leg.Target.TheVariants as target
use Rattle.plan_machine.specs.Machine.{Frame, Next, Went, Waits, goes, unwound, answered_leg}

pub data Target : Type 0 where
  -- it fails
  Nowhere : Target
  -- an inline of the template
  Inside : (from to : ℕ) → Target
  -- a URL that isn't logged
  Missing : (url : List ℕ) → Target
  Found : (answer : Answered) → Target

abbrev pub asked_target : List ℕ → Option Answered → Target
asked_target w None = Missing w
asked_target w (Some a) = Found a

module _ (log : List Answered) where
  abbrev pub named_target : List ℕ → Option Inline → Target
  named_target w (Some i) = Inside i.first i.end
  named_target w None = asked_target w (answer_of log w)

  -- a leg with this URL, or with none, in a template of the URL u with these inlines
  abbrev pub resolved_target : List ℕ → List Inline → Option (List ℕ) → Target
  resolved_target u inlines None = Nowhere
  resolved_target u inlines (Some w) = named_target w (entry_among u w inlines)

-- the leg s at this level
abbrev pub target_of : Request → List Answered → List ℕ → List Inline → List Part → ℕ → Target
target_of r log u inlines s zero = Nowhere
target_of r log u inlines s (suc n) = resolved_target log u inlines (resolve u (substituted r s))

module _ (r : Request) (log : List Answered) where
  abbrev pub acted : ℕ → List (List ℕ) → Frame → List Frame → Target → Next
  acted legs out f fs Nowhere = Went (unwound legs out (f ∷ fs))
  acted legs out f fs (Inside from to) = Went (goes legs out (record { url = f.url; tree = f.tree; level = f.level - 1; at = from; end = to; handlers = [] } ∷ f ∷ fs))
  acted legs out f fs (Missing w) = Waits f.level w
  acted legs out f fs (Found a) = Went (answered_leg r log legs out (f ∷ fs) (f.level - 1) a.url a.reply)

-- what is in the slot with a number
abbrev pub found_at : Option Answered → Target
found_at (Some a) = Found a
found_at None = Nowhere

abbrev pub shown_target : State → code.Target → Target
shown_target board target.Nowhere = Nowhere
shown_target board (target.Inside from to) = Inside from to
shown_target board (target.Missing url) = Missing url
shown_target board (target.Found number) = found_at (answer_at board.slots number)
