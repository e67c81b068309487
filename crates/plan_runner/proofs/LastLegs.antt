-- The leg that a page remembers.
use Rattle.std.proofs.Common.{◌≡◌, ℕ, zero, suc, Bool, true, false, List, [], ◌∷◌, ◌++◌, slice_get, Option, Some, None, option_and_then, refl, sym, ◌∙◌, ap, subst}
use Rattle.edge_types.specs.declared.head.Head.{Head}
use Rattle.edge_types.specs.declared.answer.Reply.{Reply}
use Rattle.edge_types.specs.declared.answer.Reply.TheVariants.{Failed, Got}
use Rattle.edge_types.specs.declared.outcome.PageFault.TheVariants.{IncludeFailed}
use Rattle.edge_types.specs.declared.request.Request.{Request}
use Rattle.edge_types.specs.Answered.{Answered, body_of}
use Rattle.edge_types.specs.Asked.{resolve}
use Rattle.edge_types.specs.Outcome.{Fault}
use Rattle.edge_types.specs.Table.{is_of, answer_of, reply_of}
use Rattle.esi_meaning.specs.Meaning.{page_run, reply_legs, text_outcome}
use Rattle.esi_tree.specs.Tree.{Elements}
use Rattle.esi_vars.specs.declared.part.Part.{Part}
use Rattle.esi_vars.specs.Values.{substituted}
use Rattle.plan_compiler.specs.declared.inline.Inline.{Inline}
use Rattle.plan_compiler.specs.declared.plan.Plan.{Plan}
use Rattle.plan_compiler.specs.Bodies.{IsSingle, entries}
use Rattle.plan_compiler.specs.Code.{code_of}
use Rattle.plan_compiler.specs.Plan.{Step}
use Rattle.plan_compiler.specs.Prepared.{IsPlanOf}
use Rattle.plan_compiler.specs.Shown.{steps_in}
use Rattle.plan_compiler.specs.Urls.{entry_for}
use Rattle.plan_compiler.proofs.Single.{templates_are_single}
use Rattle.answer_board.specs.Board.{State, KeepsFilled, answer_at, log_of}
use Rattle.answer_board.proofs.Stays.{answer_at-keeps}
use Rattle.plan_machine.specs.LastLeg.{url_of, last_url, named_as, resolved_as, leg_as, tried_here, tried_in, failed_answer}
use Rattle.plan_machine.specs.Laws.{IsPage}
use Rattle.plan_machine.specs.Machine.{Frame, Machine, Waits, after, step, step_in, start}
use Rattle.plan_machine.specs.Progress.{Ready}
use Rattle.plan_machine.specs.Rests.{text_so_far}
use Rattle.plan_machine.proofs.Growth.{found_in_more, after_stays, step_stays}
use Rattle.plan_machine.proofs.LastLeg.{fails_at_the_last_leg}
use Rattle.plan_runner.specs.declared.frames.Frame as code_frame
use Rattle.plan_runner.specs.declared.machine.Machine as code_machine
use Rattle.plan_runner.specs.LastLeg.{IsHeldAt, IsSlotOf, FailedAt, FailsAt, IsFailedPage}
use Rattle.plan_runner.specs.Plain.{plain_outcome}
use Rattle.plan_runner.specs.Shown.{tree_in, shown_frame, shown_frames}
use Rattle.plan_runner.specs.Targets.{Nowhere, Inside, Missing, Found, asked_target, named_target, resolved_target, target_of, found_at}

-- ---- one step

module _ (r : Request) (b : State) (f : Frame) where
  abbrev log : List Answered
  log = log_of b

  -- the slot that has this answer, by where the leg leads
  asked_slot : (last : Option ℕ) (o : Option Answered) (w : List ℕ) (x : Option Answered) → answer_of log w ≡ x → found_at o ≡ asked_target w x → IsHeldAt b last o → IsSlotOf b last (Some w)
  asked_slot last None w None is e held = absurd (cc)
  asked_slot last (Some a) w None is e held = absurd (cc)
  asked_slot last None w (Some x) is e held = absurd (cc)
  asked_slot None (Some a) w (Some x) is e held = held
  asked_slot (Some number) (Some a) w (Some x) is e held = let same : a ≡ x = cc in (a, held, is ∙ ap Some (sym same))

  nobody : (last : Option ℕ) (o : Option Answered) → found_at o ≡ Nowhere → IsHeldAt b last o → IsSlotOf b last None
  nobody None None e held = tt
  nobody (Some number) None e held = held
  nobody last (Some a) e held = absurd (cc)

  named_slot : (last : Option ℕ) (o : Option Answered) (n : ℕ) (w : List ℕ) (entry : Option Inline) → found_at o ≡ named_target log w entry → IsHeldAt b last o → IsSlotOf b last (url_of (named_as n w entry))
  named_slot last None n w (Some i) e held = absurd (cc)
  named_slot last (Some a) n w (Some i) e held = absurd (cc)
  named_slot last o n w None e held = asked_slot last o w (answer_of log w) refl e held

  resolved_slot : (last : Option ℕ) (o : Option Answered) (n : ℕ) (x : Option (List ℕ)) → found_at o ≡ resolved_target log f.url (entries f.tree) x → IsHeldAt b last o → IsSlotOf b last (url_of (resolved_as f n x))
  unfolding entry_for
  resolved_slot last o n None e held = nobody last o e held
  resolved_slot last o n (Some w) e held = named_slot last o n w (entry_for f.url w f.tree) e held

  pub leg_slot : (last : Option ℕ) (o : Option Answered) (s : List Part) (n : ℕ) → found_at o ≡ target_of r log f.url (entries f.tree) s n → IsHeldAt b last o → IsSlotOf b last (url_of (leg_as r f s n))
  leg_slot last o s zero e held = nobody last o e held
  leg_slot last o s (suc n) e held = resolved_slot last o n (resolve f.url (substituted r s)) e held

  -- an inline asks nobody
  named_inside : (from to n : ℕ) (w : List ℕ) (x : Option Answered) (entry : Option Inline) → answer_of log w ≡ x → Inside from to ≡ named_target log w entry → IsSlotOf b None (url_of (named_as n w entry))
  named_inside from to n w x (Some i) is e = tt
  named_inside from to n w None None is e = let e' : Inside from to ≡ Missing w = e ∙ ap (asked_target w) is in absurd (cc)
  named_inside from to n w (Some a) None is e = let e' : Inside from to ≡ Found a = e ∙ ap (asked_target w) is in absurd (cc)

  resolved_inside : (from to n : ℕ) (x : Option (List ℕ)) → Inside from to ≡ resolved_target log f.url (entries f.tree) x → IsSlotOf b None (url_of (resolved_as f n x))
  unfolding entry_for
  resolved_inside from to n None e = tt
  resolved_inside from to n (Some w) e = named_inside from to n w (answer_of log w) (entry_for f.url w f.tree) refl e

  pub leg_inside_slot : (from to : ℕ) (s : List Part) (n : ℕ) → Inside from to ≡ target_of r log f.url (entries f.tree) s n → IsSlotOf b None (url_of (leg_as r f s n))
  leg_inside_slot from to s zero e = tt
  leg_inside_slot from to s (suc n) e = resolved_inside from to n (resolve f.url (substituted r s)) e

-- what the step of a frame tries
pub tried_of_frame : (r : Request) (b : State) (f : code_frame.Frame) (frames rest : List code_frame.Frame) (a : Answered) (plan : Plan) (o : Option Step) → frames ≡ f ∷ rest → answer_at b.slots f.slot ≡ Some a → IsPlanOf (body_of a.reply) plan → o ≡ slice_get (steps_in plan) f.at
    → tried_in r (shown_frames b frames) ≡ tried_here r (shown_frame b f) o
tried_of_frame r b f frames rest a plan o is there p here =
    let tree : tree_in (answer_at b.slots f.slot) ≡ p.t = rw (there, p.read) refl in
    let steps : code_of (tree_in (answer_at b.slots f.slot)) ≡ steps_in plan = ap code_of tree ∙ sym p.steps_are in
    ap (λ (fs : List code_frame.Frame). tried_in r (shown_frames b fs)) is
    ∙ ap (λ (xs : List Step). tried_here r (shown_frame b f) (slice_get xs f.at)) steps
    ∙ ap (λ (x : Option Step). tried_here r (shown_frame b f) x) (sym here)

-- a machine that waits hasn't failed
waits_in : (r : Request) (log : List Answered) (legs : ℕ) (out : List (List ℕ)) (fs : List Frame) (level : ℕ) (w : List ℕ) → step_in r log legs out fs ≡ Waits level w → (failed : Bool) → Ready failed fs → failed ≡ false
waits_in r log legs out [] level w e failed ready = absurd (cc)
waits_in r log legs out (f ∷ fs) level w e failed ready = ready.0

pub waits_going : (r : Request) (log : List Answered) (m : Machine) (level : ℕ) (w : List ℕ) → step r log m ≡ Waits level w → Ready m.failed m.frames → m.failed ≡ false
unfolding step
waits_going r log m level w e ready = waits_in r log m.legs m.out m.frames level w e m.failed ready

-- ---- when more answers come in

module _ (b c : State) (more : List Answered) (keeps : KeepsFilled b c) (log : log_of c ≡ log_of b ++ more) where
  slot_moves : (last : Option ℕ) (url : Option (List ℕ)) → IsSlotOf b last url → IsSlotOf c last url
  slot_moves None None h = tt
  slot_moves None (Some w) h = h
  slot_moves (Some number) None h = h
  slot_moves (Some number) (Some w) h =
      (h.0, answer_at-keeps b c keeps number h.0 h.1, ap (λ (l : List Answered). answer_of l w) log ∙ found_in_more (is_of w) (log_of b) more h.0 h.2)

  pub failed_at_moves : (r : Request) (first : Machine) (last : Option ℕ) → FailedAt r b first last → FailedAt r c first last
  failed_at_moves r first last h = record {
    count = h.count;
    before = h.before;
    failed = h.failed;
    there = ap (λ (l : List Answered). after r l h.count first) log ∙ after_stays r (log_of b) more h.count first h.before h.there;
    fails = ap (λ (l : List Answered). step r l h.before) log ∙ step_stays r (log_of b) more h.before h.failed h.fails;
    is_failed = h.is_failed;
    is_last = slot_moves last (last_url (tried_in r h.before.frames)) h.is_last;
  }

-- ---- the page

module _ (r : Request) (b : State) (L : ℕ) (u : List ℕ) where
  held_is : (last : Option ℕ) (url : Option (List ℕ)) → IsSlotOf b last url → option_and_then (answer_at b.slots) last ≡ option_and_then (answer_of (log_of b)) url
  held_is None None h = refl
  held_is None (Some w) h = absurd h
  held_is (Some number) None h = absurd h
  held_is (Some number) (Some w) h = h.1 ∙ sym h.2

  legs_are : (tree : Elements) (head : Head) → IsPage (log_of b) u tree head → reply_legs r (log_of b) L u (reply_of (log_of b) u) ≡ (page_run r (log_of b) L u tree).legs
  legs_are tree head page = rw (page.reply, page.is_template, page.is_tree) refl

  pub failed_is : (last : Option ℕ) → IsFailedPage r b L u last → option_and_then (answer_at b.slots) last ≡ failed_answer r (log_of b) L u
  failed_is last h =
      let at = h.failed_at in
      let single : IsSingle h.tree = templates_are_single h.page.body h.tree h.page.is_tree in
      let legs : last_url (page_run r (log_of b) L u h.tree).legs ≡ last_url (tried_in r at.before.frames) = fails_at_the_last_leg r (log_of b) L u h.tree single at.count at.before at.failed at.there at.fails at.is_failed in
      held_is last (last_url (tried_in r at.before.frames)) at.is_last
      ∙ ap (option_and_then (answer_of (log_of b))) (sym (ap last_url (legs_are h.tree h.head h.page) ∙ legs))

-- ---- outcomes

pub plain_stands : (reply : Reply) → plain_outcome reply ≡ Fault IncludeFailed → ⊥
plain_stands Failed e = cc
plain_stands (Got head control body) e = cc

-- a page that ends by a failure failed at the leg that its machine remembers
pub failed_page : (r : Request) (b : State) (L : ℕ) (u : List ℕ) (tree : Elements) (head : Head) → IsPage (log_of b) u tree head → (m : code_machine.Machine) → FailsAt r b (start L u tree) m
    → (last : Option ℕ) → last ≡ m.last → text_outcome head (text_so_far m.failed m.out) ≡ Fault IncludeFailed → IsFailedPage r b L u last
failed_page r b L u tree head page m fails last same e =
    record { tree = tree; head = head; page = page; failed_at = subst (FailedAt r b (start L u tree)) (sym same) (fails (has_failed m.failed e)) }
  where
    has_failed : (failed : Bool) → text_outcome head (text_so_far failed m.out) ≡ Fault IncludeFailed → failed ≡ true
    has_failed true is = refl
    has_failed false is = absurd (cc)
