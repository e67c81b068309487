-- The machine of a page: one step of a plan at a time, over the answers that are logged.
use Rattle.std.specs.Prelude.{ℕ, zero, suc, ◌+◌, max, Bool, true, false, nat_lt, List, [], ◌∷◌, length, take, slice_get, Option, Some, None, Result, Ok, Err, if◌then◌else◌}
use Rattle.edge_types.specs.declared.request.Request.{Request}
use Rattle.edge_types.specs.declared.answer.Reply.{Reply}
use Rattle.edge_types.specs.Answered.{Answered, succeeded, processed_as_fragment, body_of}
use Rattle.edge_types.specs.Asked.{resolve}
use Rattle.edge_types.specs.Pieces.{with_piece, with_pieces}
use Rattle.edge_types.specs.Table.{answer_of}
use Rattle.esi_vars.specs.declared.part.Part.{Part}
use Rattle.esi_vars.specs.Values.{substituted, value_pieces}
use Rattle.esi_expr.specs.Truth.{holds}
use Rattle.esi_tree.specs.Tree.{Elements}
use Rattle.esi_tree.specs.Reading.{tree_of}
use Rattle.esi_meaning.specs.Meaning.{most_legs}
use Rattle.plan_compiler.specs.Plan.{Step, Text, Values, Test, Jump, Try, EndTry, Leg}
use Rattle.plan_compiler.specs.Code.{code_of}
use Rattle.plan_compiler.specs.declared.inline.Inline.{Inline}
use Rattle.plan_compiler.specs.Urls.{entry_for}
use Rattle.plan_machine.specs.declared.handler.Handler.{Handler}

-- a template, or an inline of it, that is being processed: where it is in its plan
pub record Frame : Type 0 where
  pub url : List ℕ
  pub tree : Elements
  pub level : ℕ
  pub at : ℕ
  pub end : ℕ
  pub handlers : List Handler

pub record Machine : Type 0 where
  -- the innermost first; none if the page's text is whole, or if it failed
  pub frames : List Frame
  pub out : List (List ℕ)
  pub legs : ℕ
  pub failed : Bool

-- what a step does
pub data Next : Type 0 where
  Went : (after : Machine) → Next
  -- it needs, at this level, a URL that isn't logged
  Waits : (level : ℕ) (url : List ℕ) → Next
  -- it is one more leg than a page may try
  TooMany : Next
  -- there is no step
  Rests : Next

-- the machine after the step, if it was made
abbrev pub gone : Next → Option Machine
gone (Went m) = Some m
gone (Waits level url) = None
gone TooMany = None
gone Rests = None

-- frames that have reached their end are left
abbrev pub settled : List Frame → List Frame
settled [] = []
settled (f ∷ fs) = if nat_lt f.at f.end then f ∷ fs else settled fs

abbrev pub moved : Frame → ℕ → Frame
moved f at = record { url = f.url; tree = f.tree; level = f.level; at = at; end = f.end; handlers = f.handlers }

abbrev pub handled : Frame → ℕ → List Handler → Frame
handled f at hs = record { url = f.url; tree = f.tree; level = f.level; at = at; end = f.end; handlers = hs }

-- on with these frames
abbrev pub goes : ℕ → List (List ℕ) → List Frame → Machine
goes legs out fs = record { frames = settled fs; out = out; legs = legs; failed = false }

-- a failure: on at the innermost handler, with the output cut back to its mark
abbrev pub at_handler : Machine → ℕ → List (List ℕ) → Frame → List Frame → List Handler → Machine
at_handler rest legs out f fs [] = rest
at_handler rest legs out f fs (h ∷ hs) = goes legs (take h.mark out) (handled f (max f.at h.to) hs ∷ fs)

abbrev pub unwound : ℕ → List (List ℕ) → List Frame → Machine
unwound legs out [] = record { frames = []; out = out; legs = legs; failed = true }
unwound legs out (f ∷ fs) = at_handler (unwound legs out fs) legs out f fs f.handlers

abbrev pub without_first : List Handler → List Handler
without_first [] = []
without_first (h ∷ hs) = hs

module _ (r : Request) (log : List Answered) where
  -- a leg, in the frame f before the frames fs; this many legs were tried, including this one

  abbrev pub plain_leg : ℕ → List (List ℕ) → List Frame → Reply → Machine
  plain_leg legs out fs reply = if succeeded reply then goes legs (with_piece out (body_of reply)) fs else unwound legs out fs

  abbrev pub template_leg : ℕ → List (List ℕ) → List Frame → ℕ → List ℕ → Result Elements ℕ → Machine
  template_leg legs out fs n w (Ok t) = goes legs out (record { url = w; tree = t; level = n; at = zero; end = length (code_of t); handlers = [] } ∷ fs)
  template_leg legs out fs n w (Err place) = unwound legs out fs

  abbrev pub answered_leg : ℕ → List (List ℕ) → List Frame → ℕ → List ℕ → Reply → Machine
  answered_leg legs out fs n w reply = if processed_as_fragment reply then template_leg legs out fs n w (tree_of (body_of reply)) else plain_leg legs out fs reply

  abbrev pub asking_leg : ℕ → List (List ℕ) → List Frame → ℕ → List ℕ → Option Answered → Next
  asking_leg legs out fs n w None = Waits (suc n) w
  asking_leg legs out fs n w (Some a) = Went (answered_leg legs out fs n w a.reply)

  abbrev pub named_leg : ℕ → List (List ℕ) → Frame → List Frame → ℕ → List ℕ → Option Inline → Next
  named_leg legs out f fs n w (Some p) = Went (goes legs out (record { url = f.url; tree = f.tree; level = n; at = p.first; end = p.end; handlers = [] } ∷ f ∷ fs))
  named_leg legs out f fs n w None = asking_leg legs out (f ∷ fs) n w (answer_of log w)

  abbrev pub resolved_leg : ℕ → List (List ℕ) → Frame → List Frame → ℕ → Option (List ℕ) → Next
  resolved_leg legs out f fs n None = Went (unwound legs out (f ∷ fs))
  resolved_leg legs out f fs n (Some w) = named_leg legs out f fs n w (entry_for f.url w f.tree)

  abbrev pub leg_at : ℕ → List (List ℕ) → Frame → List Frame → List Part → ℕ → Next
  leg_at legs out f fs s zero = Went (unwound legs out (f ∷ fs))
  leg_at legs out f fs s (suc n) = resolved_leg legs out f fs n (resolve f.url (substituted r s))

  -- one step of the frame f, which is already past it, before the frames fs
  abbrev pub doing : ℕ → List (List ℕ) → Frame → List Frame → Step → Next
  doing legs out f fs (Text text) = Went (goes legs (with_piece out text) (f ∷ fs))
  doing legs out f fs (Values parts) = Went (goes legs (with_pieces out (value_pieces r [] parts)) (f ∷ fs))
  doing legs out f fs (Test test skip) = Went (goes legs out (moved f (f.at + (if holds r test then zero else skip)) ∷ fs))
  doing legs out f fs (Jump skip) = Went (goes legs out (moved f (f.at + skip) ∷ fs))
  doing legs out f fs (Try skip) = Went (goes legs out (handled f f.at (record { to = f.at + skip; mark = length out } ∷ f.handlers) ∷ fs))
  doing legs out f fs (EndTry skip) = Went (goes legs out (handled f (f.at + skip) (without_first f.handlers) ∷ fs))
  doing legs out f fs (Leg s) = if nat_lt legs most_legs then leg_at (legs + 1) out f fs s f.level else TooMany

  abbrev pub step_here : ℕ → List (List ℕ) → Frame → List Frame → Option Step → Next
  step_here legs out f fs None = Rests
  step_here legs out f fs (Some s) = doing legs out (moved f (f.at + 1)) fs s

  abbrev pub step_in : ℕ → List (List ℕ) → List Frame → Next
  step_in legs out [] = Rests
  step_in legs out (f ∷ fs) = step_here legs out f fs (slice_get (code_of f.tree) f.at)

  -- the next step of the machine
  unfoldable pub step : Machine → Next
  step m = step_in m.legs m.out m.frames

  -- the machine after k steps, none of which needs a URL that isn't logged
  abbrev pub stepped : Option Machine → Option Machine
  stepped None = None
  stepped (Some m) = gone (step m)

  unfoldable pub after : ℕ → Machine → Option Machine
  after zero m = Some m
  after (suc k) m = stepped (after k m)

-- the machine before the first step of the page of the URL u with the tree t, at level n
abbrev pub start : ℕ → List ℕ → Elements → Machine
start n u t = goes zero [] (record { url = u; tree = t; level = n; at = zero; end = length (code_of t); handlers = [] } ∷ [])
