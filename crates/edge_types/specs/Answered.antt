-- What an origin answered, and which answers the edge accepts.
use Rattle.std.specs.Prelude.{ℕ, ◌≤◌, Bool, false, ◌&&◌, ◌||◌, List, [], length, ⊤}
use Rattle.edge_types.specs.declared.answer.Reply.{Reply}
use Rattle.edge_types.specs.declared.answer.Reply.TheVariants.{Failed, Got}
use Rattle.edge_types.specs.declared.control.Control.{Control}
use Rattle.edge_types.specs.declared.head.Head.{Head}
use Rattle.edge_types.specs.Head.{HeadLimits, is_success}

-- a URL, and what its origin replied
pub record Answered : Type 0 where
  pub url : List ℕ
  pub reply : Reply

-- nothing could be fetched
abbrev pub failed : List ℕ → Answered
failed url = record { url = url; reply = Failed }

-- an answer with this head and body
abbrev pub got : List ℕ → Head → Control → List ℕ → Answered
got url head control body = record { url = url; reply = Got head control body }

-- which answers the edge accepts, if a body may have this many bytes
pub record IsAcceptable (most : ℕ) (said : Head) (body : List ℕ) : Type 0 where
  pub head : HeadLimits said
  pub body_length : length body ≤ most

-- a failure, or an answer that the edge accepts under some limit
abbrev pub IsWithinLimits : Reply → Type 0
IsWithinLimits Failed = ⊤
IsWithinLimits (Got head control body) = IsAcceptable 16777216 head body

-- the fetch gave a resource
abbrev pub succeeded : Reply → Bool
succeeded Failed = false
succeeded (Got head control body) = is_success head.status

-- the body is an ESI template, to be processed where it is a page's
abbrev pub processed : Reply → Bool
processed Failed = false
processed (Got head control body) = control.esi && (is_success head.status || control.errors)

-- and where it is a fragment's: a fragment under an error is none, whatever its body
abbrev pub processed_as_fragment : Reply → Bool
processed_as_fragment Failed = false
processed_as_fragment (Got head control body) = is_success head.status && control.esi

-- the body; a failure has none
abbrev pub body_of : Reply → List ℕ
body_of Failed = []
body_of (Got head control body) = body
