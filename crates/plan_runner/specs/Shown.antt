-- What clauses see of the machine: its frames have the templates that fill their slots.
use Rattle.std.specs.Prelude.{◌≡◌, ℕ, true, List, [], map, Option, Some, None, Result, Ok, Err}
use Rattle.std.specs.List.{AllByRecursion}
use Rattle.edge_types.specs.Answered.{Answered, processed, body_of}
use Rattle.esi_tree.specs.Tree.{Elements, End}
use Rattle.esi_tree.specs.Reading.{tree_of}
use Rattle.answer_board.specs.Board.{State, answer_at}
use Rattle.plan_runner.specs.declared.frames.Frame as code_frame
use Rattle.plan_runner.specs.declared.machine.Machine as code_machine
use Rattle.plan_machine.specs.Machine.{Frame, Machine}

abbrev pub url_in : Option Answered → List ℕ
url_in (Some a) = a.url
url_in None = []

abbrev pub tree_read : Result Elements ℕ → Elements
tree_read (Ok t) = t
tree_read (Err place) = End

abbrev pub tree_in : Option Answered → Elements
tree_in (Some a) = tree_read (tree_of (body_of a.reply))
tree_in None = End

abbrev pub shown_frame : State → code_frame.Frame → Frame
shown_frame board f = record {
  url = url_in (answer_at board.slots f.slot);
  tree = tree_in (answer_at board.slots f.slot);
  level = f.level;
  at = f.at;
  end = f.end;
  handlers = f.handlers;
}

abbrev pub shown_frames : State → List code_frame.Frame → List Frame
shown_frames board fs = map (shown_frame board) fs

abbrev pub shown_machine : State → code_machine.Machine → Machine
shown_machine board m = record { frames = shown_frames board m.frames; out = m.out; legs = m.legs; failed = m.failed }

-- a template that is processed fills the frame's slot
pub record IsPlaced (board : State) (f : code_frame.Frame) : Type 0 where
  pub answer : Answered
  pub tree : Elements
  pub there : answer_at board.slots f.slot ≡ Some answer
  pub is_processed : processed answer.reply ≡ true
  pub is_tree : tree_of (body_of answer.reply) ≡ Ok tree

abbrev pub ArePlaced : State → List code_frame.Frame → Type 0
ArePlaced board fs = AllByRecursion (IsPlaced board) fs

-- a frame before its first step
abbrev pub first_frame : ℕ → ℕ → ℕ → code_frame.Frame
first_frame slot end level = record { slot = slot; at = 0; end = end; level = level; handlers = [] }
