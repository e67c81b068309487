-- Frames as the code moves them.
use Rattle.std.proofs.Common.{◌≡◌, ℕ, ◌≤◌, false, nat_lt, List, [], ◌∷◌, subst, sym, refl, le-ltb}
use Rattle.answer_board.specs.Board.{State}
use Rattle.plan_runner.specs.declared.frames.Frame as code_frame
use Rattle.plan_machine.specs.Machine.{settled, unwound}
use Rattle.plan_runner.specs.Shown.{shown_frames, IsPlaced, ArePlaced}

-- a frame at its end is left
pub settled_over : (board : State) (all : List code_frame.Frame) (f : code_frame.Frame) (fs : List code_frame.Frame) → all ≡ f ∷ fs → f.end ≤ f.at
    → settled (shown_frames board all) ≡ settled (shown_frames board fs)
settled_over board all f fs is over =
    let no : nat_lt f.at f.end ≡ false = le-ltb f.at f.end over in
    rw is (rw no refl)

-- a frame without handlers is left at a failure
pub unwound_over : (board : State) (legs : ℕ) (out : List (List ℕ)) (all : List code_frame.Frame) (f : code_frame.Frame) (fs : List code_frame.Frame) → all ≡ f ∷ fs → f.handlers ≡ []
    → unwound legs out (shown_frames board all) ≡ unwound legs out (shown_frames board fs)
unwound_over board legs out all f fs is none = rw is (rw none refl)

pub placed_rest : (board : State) (all : List code_frame.Frame) (f : code_frame.Frame) (fs : List code_frame.Frame) → all ≡ f ∷ fs → ArePlaced board all → ArePlaced board fs
placed_rest board all f fs is placed = (subst (ArePlaced board) is placed).1

pub placed_first : (board : State) (all : List code_frame.Frame) (f : code_frame.Frame) (fs : List code_frame.Frame) → all ≡ f ∷ fs → ArePlaced board all → IsPlaced board f
placed_first board all f fs is placed = (subst (ArePlaced board) is placed).0

pub placed_both : (board : State) (all : List code_frame.Frame) (f : code_frame.Frame) (fs : List code_frame.Frame) → all ≡ f ∷ fs → IsPlaced board f → ArePlaced board fs → ArePlaced board all
placed_both board all f fs is first rest = subst (ArePlaced board) (sym is) (first, rest)

-- a frame is placed wherever its number is that of one that is
pub placed_same : (board : State) (f g : code_frame.Frame) → f.slot ≡ g.slot → IsPlaced board f → IsPlaced board g
placed_same board f g same p = record { answer = p.answer; tree = p.tree; there = rw (← same) p.there; is_processed = p.is_processed; is_tree = p.is_tree }
