-- What is left of a connection behind a response.
use Rattle.std.specs.Prelude.{◌≢◌}
use Rattle.http.specs.declared.response.Parts.{Parts}
use Rattle.origin_exchange.specs.declared.behind.Behind.{Behind}
use Rattle.origin_exchange.specs.declared.behind.Behind.TheVariants.{End}
use Rattle.origin_http.specs.Heads.{StaysOpen}

-- anything is left only where the connection stays open behind a response with this head
abbrev pub FollowsHead : {I : Type 0} → Parts → Behind I → Type 0
FollowsHead head behind = behind ≢ End → StaysOpen head
