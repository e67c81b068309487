-- The leg at which a page fails: which leg a step tries, and the URL that the last of some legs asks for.
use Rattle.std.specs.Prelude.{ℕ, zero, suc, ◌+◌, List, [], ◌∷◌, slice_get, Option, Some, None, option_and_then}
use Rattle.edge_types.specs.declared.request.Request.{Request}
use Rattle.edge_types.specs.Answered.{Answered}
use Rattle.edge_types.specs.Asked.{resolve}
use Rattle.edge_types.specs.Table.{answer_of, reply_of}
use Rattle.esi_vars.specs.declared.part.Part.{Part}
use Rattle.esi_vars.specs.Values.{substituted}
use Rattle.esi_meaning.specs.Meaning.{reply_legs}
use Rattle.esi_meaning.specs.Run as run
use Rattle.esi_meaning.specs.Run.{Asks, AsksNobody}
use Rattle.plan_compiler.specs.Plan.{Step, Text, Values, Test, Jump, Try, EndTry, Leg}
use Rattle.plan_compiler.specs.Code.{code_of}
use Rattle.plan_compiler.specs.declared.inline.Inline.{Inline}
use Rattle.plan_compiler.specs.Urls.{entry_for}
use Rattle.plan_machine.specs.Machine.{Frame, moved}

-- the URL that a leg asks for
abbrev pub url_of : run.Leg → Option (List ℕ)
url_of (Asks level url) = Some url
url_of AsksNobody = None

abbrev pub last_url_after : Option (List ℕ) → List run.Leg → Option (List ℕ)
last_url_after before [] = before
last_url_after before (leg ∷ legs) = last_url_after (url_of leg) legs

-- the URL that the last of these legs asks for; none if it asks nobody
abbrev pub last_url : List run.Leg → Option (List ℕ)
last_url legs = last_url_after None legs

-- The answer of the leg at which the page of the URL u fails, over the answers that are logged: the one that the last of
-- its legs asks for.
abbrev pub failed_answer : Request → List Answered → ℕ → List ℕ → Option Answered
failed_answer r log levels u = option_and_then (answer_of log) (last_url (reply_legs r log levels u (reply_of log u)))

-- a leg with this URL, or with none, in the template of the frame f, with n levels below the leg: an inline asks nobody
abbrev pub named_as : ℕ → List ℕ → Option Inline → run.Leg
named_as n w (Some entry) = AsksNobody
named_as n w None = Asks (suc n) w

abbrev pub resolved_as : Frame → ℕ → Option (List ℕ) → run.Leg
resolved_as f n None = AsksNobody
resolved_as f n (Some w) = named_as n w (entry_for f.url w f.tree)

-- the leg s at this level
abbrev pub leg_as : Request → Frame → List Part → ℕ → run.Leg
leg_as r f s zero = AsksNobody
leg_as r f s (suc n) = resolved_as f n (resolve f.url (substituted r s))

-- the leg that a step of the frame f tries, if it tries one
abbrev pub tried_by : Request → Frame → Step → List run.Leg
tried_by r f (Text text) = []
tried_by r f (Values parts) = []
tried_by r f (Test test skip) = []
tried_by r f (Jump skip) = []
tried_by r f (Try skip) = []
tried_by r f (EndTry skip) = []
tried_by r f (Leg s) = leg_as r f s f.level ∷ []

abbrev pub tried_here : Request → Frame → Option Step → List run.Leg
tried_here r f None = []
tried_here r f (Some s) = tried_by r (moved f (f.at + 1)) s

-- the leg that the next step of these frames tries, if it tries one
abbrev pub tried_in : Request → List Frame → List run.Leg
tried_in r [] = []
tried_in r (f ∷ fs) = tried_here r f (slice_get (code_of f.tree) f.at)
