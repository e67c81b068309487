-- How long answers are good for, in whole seconds of the cache's clock. `max-age=N+M` and `no-store`: Edge Architecture Specification 1.0, "Surrogate-Control Header".
-- Our profile: only successes are stored, none with a `max-age` of 0, and the extension M counts only if the origin fails.
use Rattle.std.specs.Prelude.{ℕ, ◌+◌, ◌-◌, ◌^◌, Bool, true, ◌&&◌, not, nat_le, min, Option, None, Some, if◌then◌else◌}
use Rattle.edge_types.specs.declared.answer.Reply.{Reply}
use Rattle.edge_types.specs.declared.answer.Reply.TheVariants.{Failed, Got}
use Rattle.edge_types.specs.Answered.{Answered}
use Rattle.edge_types.specs.Head.{is_success}

-- this many seconds after another, or the last second that the clock can show
abbrev pub second_after : ℕ → ℕ → ℕ
second_after now seconds = min (now + seconds) (2 ^ 64 - 1)

-- until when an answer with this `max-age` is fresh: from 1 second on; none without one
abbrev pub fresh_until : ℕ → Option ℕ → Option ℕ
fresh_until now None = None
fresh_until now (Some age) = if nat_le 1 age then Some (second_after now age) else None

-- until when a reply that landed now is fresh: none if it is not to be stored
abbrev pub expiry_of_reply : Reply → ℕ → Option ℕ
expiry_of_reply Failed now = None
expiry_of_reply (Got head control body) now = if is_success head.status && not control.no_store then fresh_until now control.max_age else None

-- until when an answer that landed now is fresh
abbrev pub expiry_of : Answered → ℕ → Option ℕ
expiry_of answer now = expiry_of_reply answer.reply now

-- for how many seconds past its expiry a reply may bridge a failing origin
abbrev pub extension_of : Reply → ℕ
extension_of Failed = 0
extension_of (Got head control body) = control.extension

-- the origin fails: nothing could be fetched, or the status is 500 to 599
abbrev pub is_failing : Reply → Bool
is_failing Failed = true
is_failing (Got head control body) = nat_le 500 head.status && nat_le head.status 599
