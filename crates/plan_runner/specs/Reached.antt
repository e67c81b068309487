-- How a step of the code ends, next to what the machine does.
use Rattle.std.specs.Prelude.{◌≡◌, ◌∷◌}
use Rattle.answer_board.specs.Board.{State}
use Rattle.plan_runner.specs.declared.frames.Frame as code_frame
use Rattle.plan_runner.specs.declared.machine.Machine as code_machine
use Rattle.plan_runner.specs.declared.step.Reached as code
use Rattle.plan_runner.specs.declared.step.Reached.TheVariants as reached
use Rattle.plan_machine.specs.Machine.{Machine, Next, Went, Waits, TooMany, Rests}
use Rattle.plan_runner.specs.Shown.{shown_frame, shown_frames}

-- the machine with this frame before its own
abbrev pub with_frame : State → code_frame.Frame → code_machine.Machine → Machine
with_frame board f m = record { frames = shown_frame board f ∷ shown_frames board m.frames; out = m.out; legs = m.legs; failed = m.failed }

abbrev pub Reaches : Next → Machine → Machine → code.Reached → Type 0
Reaches next old new reached.Went = next ≡ Went new
Reaches next old new (reached.Waits level url) = (next ≡ Waits level url) × (new ≡ old)
Reaches next old new reached.TooMany = (next ≡ TooMany) × (new ≡ old)
Reaches next old new reached.End = (next ≡ Rests) × (new ≡ old)

-- the machine came to rest
abbrev pub Stops : code.Reached → Type 0
Stops reached.Went = ⊥
Stops (reached.Waits level url) = Unit {0}
Stops reached.TooMany = Unit {0}
Stops reached.End = Unit {0}
