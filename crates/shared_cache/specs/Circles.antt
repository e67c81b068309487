-- Which answers of a flight are for everybody who joined it.
use Rattle.std.specs.Prelude.{◌≡◌, ⊤, ℕ, Bool, false, ◌==◌, List}
use Rattle.edge_types.specs.Answered.{Answered}
use Rattle.edge_types.specs.declared.answer.Reply.{Reply}
use Rattle.edge_types.specs.declared.answer.Reply.TheVariants.{Failed, Got}
use Rattle.shared_cache.specs.declared.cache.concurrent.Look.{Look}
use Rattle.shared_cache.specs.declared.cache.concurrent.Look.TheVariants.{Landed, Begun, Flying}
use Rattle.answer_sources.specs.declared.given.Given.{Given}

-- the request for it went in a circle, so it was refused (RFC 5842, section 7.2)
unfoldable pub says_circle : Reply → Bool
says_circle Failed = false
says_circle (Got head control body) = head.status == 508

-- an answer for whoever asks for a URL, whoever led its flight
pub record IsForAll (url : List ℕ) (answer : Answered) : Type 0 where
  pub named : answer.url ≡ url
  pub no_circle : says_circle answer.reply ≡ false

-- what is given, if a look at a flight that another leads has found an answer
abbrev pub IfLanded : Look → (Given → Type 0) → Type 0
IfLanded (Landed given) holds = holds given
IfLanded Begun holds = ⊤
IfLanded Flying holds = ⊤
