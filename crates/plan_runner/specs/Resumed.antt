-- Where a machine is that went on from where it stopped, and why it stops.
use Rattle.std.specs.Prelude.{◌≡◌, ℕ, min, Some}
use Rattle.edge_types.specs.declared.request.Request.{Request}
use Rattle.answer_board.specs.Board.{State, log_of}
use Rattle.plan_runner.specs.declared.advance.Progress.{Progress}
use Rattle.plan_runner.specs.declared.step.Reached as code
use Rattle.plan_runner.specs.declared.step.Reached.TheVariants as reached
use Rattle.plan_machine.specs.Machine.{Machine, Next, Waits, TooMany, Rests, after}
use Rattle.plan_runner.specs.Shown.{shown_machine}

-- it is where the machine, started afresh over the logged answers, is after some number of steps, none of which
-- needs a URL that isn't logged; the count is this number, or the largest of its type
pub record StandsAt (r : Request) (board : State) (first : Machine) (p : Progress) : Type 0 where
  pub count : ℕ
  pub there : after r (log_of board) count first ≡ Some (shown_machine board p.machine)
  pub steps : p.steps ≡ min count 18446744073709551615

-- what the next step does is the reason why it stopped
abbrev pub Told : Next → code.Reached → Type 0
Told next reached.Went = Unit {0}
Told next (reached.Waits level url) = next ≡ Waits level url
Told next reached.TooMany = next ≡ TooMany
Told next reached.End = next ≡ Rests

-- this, if a step was made
abbrev pub IfWent : code.Reached → Type 0 → Type 0
IfWent reached.Went P = P
IfWent (reached.Waits level url) P = Unit {0}
IfWent reached.TooMany P = Unit {0}
IfWent reached.End P = Unit {0}
