-- How long the bodies of answers may be.
use Rattle.std.specs.Prelude.{ℕ, Bool, nat_le, length, if◌then◌else◌}
use Rattle.edge_types.specs.declared.answer.Reply.{Reply}
use Rattle.edge_types.specs.Answered.{processed, body_of}
use Rattle.origin_http.specs.declared.body_limits.BodyLimits.{BodyLimits}

-- a body may have so many bytes: templates have a limit of their own
abbrev pub most_bytes : BodyLimits → Bool → ℕ
most_bytes limits is_template = if is_template then limits.template else limits.body

-- the body of a reply isn't too long
abbrev pub allow : BodyLimits → Reply → Bool
allow limits reply = nat_le (length (body_of reply)) (most_bytes limits (processed reply))
