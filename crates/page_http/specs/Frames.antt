-- The frames of a response's body.
use Rattle.std.specs.Prelude.{◌≡◌, ℕ, List, [], ◌∷◌, ⊤, Option, Some, None, Result, Ok, Err}
use Rattle.std.specs.Arc.{arc_value}
use Rattle.std.specs.declared.alloc.AllocError.{AllocError}
use Rattle.futures.specs.declared.task.Poll.{Poll}
use Rattle.futures.specs.declared.task.Poll.TheVariants.{Ready, Pending}
use Rattle.futures.specs.Runs.{Runs}
use Rattle.http_body.specs.declared.frame.Frame.{Frame}
use Rattle.http_body.specs.Frame.{data_frame}
use Rattle.edge_types.specs.declared.outcome.Outcome.{Outcome}
use Rattle.edge_types.specs.declared.outcome.Outcome.TheVariants.{Page, Fault}
use Rattle.page_http.specs.declared.body.Frames.{Frames}
use Rattle.page_http.specs.declared.body.Frames.TheVariants as held

-- the pieces of an outcome's page; a fault has none
abbrev pub pieces_of : Outcome → List (List ℕ)
pieces_of (Page head pieces) = pieces
pieces_of (Fault fault) = []

-- what clauses see of a body's frames
abbrev pub frames_in : Frames → List (List ℕ)
frames_in held.Nothing = []
frames_in (held.Text text) = text ∷ []
frames_in (held.Page outcome) = pieces_of (arc_value outcome)

-- the frame is the first of these, as data, and the others remain
abbrev pub TakesFrame : List (List ℕ) → Frame (List ℕ) → List (List ℕ) → Type 0
TakesFrame frames frame rest = (bytes : List ℕ) × (frames ≡ bytes ∷ rest) × (frame ≡ data_frame bytes)

-- what comes from a body with these frames left: they come in order, each once, and then the end;
-- out of memory may be reported in between, and leaves them as they are
abbrev pub Gives : List (List ℕ) → Runs (Result (Frame (List ℕ)) AllocError)
Gives frames [] None = frames ≡ []
Gives frames [] (Some (Err e)) = ⊤
Gives frames [] (Some (Ok frame)) = (rest : List (List ℕ)) × TakesFrame frames frame rest
Gives frames (Err e ∷ answers) last = Gives frames answers last
Gives frames (Ok frame ∷ answers) last = (rest : List (List ℕ)) × TakesFrame frames frame rest × Gives rest answers last

-- what one call does to the frames that are left; it never has to wait for one
abbrev pub Steps : List (List ℕ) → Poll (Option (Result (Frame (List ℕ)) AllocError)) → List (List ℕ) → Type 0
Steps frames (Ready None) left = (frames ≡ []) × (left ≡ [])
Steps frames (Ready (Some (Err e))) left = left ≡ frames
Steps frames (Ready (Some (Ok frame))) left = TakesFrame frames frame left
Steps frames Pending left = ⊥
