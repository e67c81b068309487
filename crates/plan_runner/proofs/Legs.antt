-- A leg, as the code goes about it.
use Rattle.std.proofs.Common.{◌≡◌, ℕ, ◌-◌, ◌+◌, ◌<◌, ◌≤◌, true, false, nat_lt, lt-ltb, le-ltb, List, [], ◌∷◌, Option, None, refl, sym, ◌∙◌, ap}
use Rattle.edge_types.specs.declared.request.Request.{Request}
use Rattle.edge_types.specs.Answered.{Answered}
use Rattle.esi_meaning.specs.declared.limits.TheConstants.{MAX_LEGS}
use Rattle.esi_meaning.specs.Meaning.{most_legs}
use Rattle.esi_vars.specs.declared.part.Part.{Part}
use Rattle.plan_compiler.specs.Bodies.{entries}
use Rattle.plan_compiler.specs.Plan.{Leg}
use Rattle.plan_compiler.specs.Urls.{entries_of}
use Rattle.answer_board.specs.Board.{State, answer_at, log_of}
use Rattle.plan_machine.specs.declared.handler.Handler.{Handler}
use Rattle.plan_machine.specs.LastLeg.{leg_as}
use Rattle.plan_machine.specs.Machine.{Frame, Machine, Next, Went, Waits, TooMany, goes, moved, unwound, leg_at, doing}
use Rattle.plan_runner.specs.declared.frames.Frame as code_frame
use Rattle.plan_runner.specs.declared.leg.Setting.{Setting}
use Rattle.plan_runner.specs.declared.leg.Target as code
use Rattle.plan_runner.specs.declared.leg.Target.TheVariants.{Nowhere, Inside, Missing, Found}
use Rattle.plan_runner.specs.declared.machine.Machine as code_machine
use Rattle.plan_runner.specs.LastLeg.{IsHeldAt, IsLast}
use Rattle.plan_runner.specs.Reached.{with_frame}
use Rattle.plan_runner.specs.Shown.{shown_frame, shown_frames, shown_machine}
use Rattle.plan_runner.specs.Targets.{target_of, acted, found_at, shown_target}
use Rattle.plan_runner.proofs.LastLegs.{leg_slot, leg_inside_slot}
use Rattle.plan_runner.proofs.Targets.{leg_acts}

module _ (setting : Setting) (machine : code_machine.Machine) (frame : code_frame.Frame) (s : List Part) where
  abbrev r : Request
  r = setting.request.now

  abbrev b : State
  b = setting.board.now

  abbrev log : List Answered
  log = log_of b

  abbrev legs : ℕ
  legs = machine.legs

  abbrev out : List (List ℕ)
  out = machine.out

  -- after the leg
  abbrev f : Frame
  f = moved (shown_frame b frame) (frame.at + 1)

  abbrev fs : List Frame
  fs = shown_frames b machine.frames

  abbrev done : Next
  done = doing r log legs out f fs (Leg s)

  pub leg_many : MAX_LEGS ≤ legs → done ≡ TooMany
  unfolding most_legs
  leg_many full = let no : nat_lt legs MAX_LEGS ≡ false = le-ltb legs MAX_LEGS full in rw no refl

  -- the frame is put back
  pub put_back : {frames : List code_frame.Frame} → frames ≡ frame ∷ machine.frames → shown_machine b (record machine { frames = frames }) ≡ with_frame b frame machine
  put_back e = ap (λ (xs : List code_frame.Frame). shown_machine b (record machine { frames = xs })) e

  leg_goes : legs < MAX_LEGS → done ≡ leg_at r log (legs + 1) out f fs s f.level
  unfolding most_legs
  leg_goes room = let yes : nat_lt legs MAX_LEGS ≡ true = lt-ltb legs MAX_LEGS room in rw yes refl

  -- in this template, where it leads to this target
  module _ (room : legs < MAX_LEGS) (template : Answered) (url : template.url ≡ f.url) (named : entries_of template ≡ entries f.tree) (target : code.Target) (leads : shown_target b target ≡ target_of r log template.url (entries_of template) s f.level) where
    abbrev acts : code.Target → Next
    acts t = acted r log (legs + 1) out f fs (shown_target b t)

    leg_is : done ≡ acts target
    leg_is = leg_goes room ∙ leg_acts r log (legs + 1) out f fs s ∙ ap (acted r log (legs + 1) out f fs) (sym (rw (← url, ← named) leads))

    pub leg_found : (number : ℕ) (new : Machine) → target ≡ Found number → acted r log (legs + 1) out f fs (found_at (answer_at b.slots number)) ≡ Went new → done ≡ Went new
    leg_found number new is entered = leg_is ∙ ap acts is ∙ entered

    pub leg_missing : (w : List ℕ) → target ≡ Missing w → done ≡ Waits f.level w
    leg_missing w is = leg_is ∙ ap acts is

    pub leg_nowhere : (new : Machine) → target ≡ Nowhere → new ≡ unwound (legs + 1) out (f ∷ fs) → done ≡ Went new
    leg_nowhere new is failed = leg_is ∙ ap acts is ∙ ap Went (sym failed)

    pub leg_inside : (new : Machine) (from to level : ℕ) (handlers : List Handler) → target ≡ Inside from to → level ≡ frame.level - 1 → handlers ≡ []
        → new ≡ goes (legs + 1) out (shown_frame b (record { slot = frame.slot; at = from; end = to; level = level; handlers = handlers }) ∷ f ∷ fs) → done ≡ Went new
    leg_inside new from to level handlers is below none opened =
        leg_is ∙ ap acts is
        ∙ ap Went (sym (opened
        ∙ ap (λ (n : ℕ). goes (legs + 1) out (shown_frame b (record { slot = frame.slot; at = from; end = to; level = n; handlers = handlers }) ∷ f ∷ fs)) below
        ∙ ap (λ (hs : List Handler). goes (legs + 1) out (shown_frame b (record { slot = frame.slot; at = from; end = to; level = frame.level - 1; handlers = hs }) ∷ f ∷ fs)) none))

    -- the slot that the machine remembers after it
    leads_here : shown_target b target ≡ target_of r log f.url (entries f.tree) s f.level
    leads_here = rw (← url, ← named) leads

    abbrev IsLastHere : Option ℕ → Type 0
    IsLastHere last = IsLast b last (leg_as r f s f.level ∷ [])

    pub last_nowhere : target ≡ Nowhere → IsLastHere None
    last_nowhere is = leg_slot r b f None None s f.level (ap (shown_target b) (sym is) ∙ leads_here) tt

    pub last_inside : (from to : ℕ) → target ≡ Inside from to → IsLastHere None
    last_inside from to is = leg_inside_slot r b f from to s f.level (ap (shown_target b) (sym is) ∙ leads_here)

    pub last_found : (number : ℕ) (last : Option ℕ) → target ≡ Found number → IsHeldAt b last (answer_at b.slots number) → IsLastHere last
    last_found number last is held = leg_slot r b f last (answer_at b.slots number) s f.level (ap (shown_target b) (sym is) ∙ leads_here) held
