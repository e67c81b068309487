-- What holds of heads and of responses.
use Rattle.std.specs.Prelude.{◌≡◌, ℕ, List, [], ◌∷◌, ◌++◌, Option, None, Result, Ok, Err}
use Rattle.std.specs.declared.alloc.AllocError.{AllocError}
use Rattle.http_body.specs.declared.frame.Frame.{Frame}
use Rattle.http_body.specs.Frame.{bytes_in}
use Rattle.edge_types.specs.Answered.{IsAcceptable}
use Rattle.edge_types.specs.Pieces.{joined}
use Rattle.edge_types.specs.declared.head.Head.{Head}
use Rattle.edge_types.specs.declared.outcome.Outcome.{Outcome}
use Rattle.edge_types.specs.declared.request.Request.{Request}
use Rattle.page_http.specs.declared.field.Field.{Field}
use Rattle.page_http.specs.Frames.{Gives}
use Rattle.page_http.specs.Head.{Asks}
use Rattle.page_http.specs.Sent.{Sent, IsSendable, Tells}

-- a head asks for at most one URL, and says at most one thing
abbrev pub AsksOnce : Type 0
AsksOnce =
    (target : List ℕ) (fields : List Field) (url other : List ℕ) (request second : Request)
    → Asks target fields url request → Asks target fields other second
    → (url ≡ other) × (request ≡ second)

-- an outcome has at most one response
abbrev pub TellsOneThing : Type 0
TellsOneThing = (outcome : Outcome) (one other : Sent) → Tells outcome one → Tells outcome other → one ≡ other

-- HTTP carries the head of every answer that the edge accepts
abbrev pub CarriesAnswers : Type 0
CarriesAnswers =
    (most : ℕ) (head : Head) (body : List ℕ) → IsAcceptable most head body → IsSendable head

-- the bytes that came, whatever lack of memory was reported in between
abbrev pub bytes_of : List (Result (Frame (List ℕ)) AllocError) → List ℕ
bytes_of [] = []
bytes_of (Ok frame ∷ answers) = bytes_in frame.kind ++ bytes_of answers
bytes_of (Err e ∷ answers) = bytes_of answers

-- the bytes that came from a body are the first of its frames', and at its end all of them
abbrev pub GivesItsBytes : Type 0
GivesItsBytes =
    (frames : List (List ℕ)) (answers : List (Result (Frame (List ℕ)) AllocError)) (last : Option (Result (Frame (List ℕ)) AllocError))
    → Gives frames answers last
    → (rest : List ℕ) × (joined frames ≡ bytes_of answers ++ rest) × (last ≡ None → rest ≡ [])
