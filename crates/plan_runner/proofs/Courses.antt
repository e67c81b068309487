-- From a page's own answer to where it waits or is done.
use Rattle.std.proofs.Common.{◌≡◌, inl, inr, ℕ, ◌+◌, min, Bool, true, false, List, [], ◌∷◌, length, Option, Some, None, is_none, Ok, Err, refl, sym, ◌∙◌, ap, subst, arith, option_and_then}
use Rattle.edge_types.specs.declared.head.Head.{Head}
use Rattle.edge_types.specs.declared.request.Request.{Request}
use Rattle.edge_types.specs.declared.answer.Reply.{Reply}
use Rattle.edge_types.specs.declared.answer.Reply.TheVariants.{Failed, Got}
use Rattle.edge_types.specs.declared.control.Control.{Control}
use Rattle.edge_types.specs.declared.outcome.PageFault.TheVariants.{BadTemplate, IncludeFailed, TooManyLegs}
use Rattle.edge_types.specs.Answered.{Answered, processed, body_of}
use Rattle.edge_types.specs.Outcome.{Shown, Page, Fault}
use Rattle.edge_types.specs.Table.{answer_of, reply_in}
use Rattle.edge_types.specs.Pieces.{joined}
use Rattle.esi_meaning.specs.Meaning.{text_outcome}
use Rattle.esi_meaning.specs.State.{Done, is_missing}
use Rattle.esi_tree.specs.Reading.{tree_of}
use Rattle.esi_tree.specs.Tree.{Elements}
use Rattle.plan_compiler.specs.declared.plan.Plan.{Plan}
use Rattle.plan_compiler.specs.Code.{code_of}
use Rattle.plan_compiler.specs.Prepared.{IsPlanOf}
use Rattle.plan_compiler.specs.Shown.{steps_in}
use Rattle.answer_board.specs.Board as board
use Rattle.answer_board.specs.Board.{number_of, answer_at, log_of}
use Rattle.answer_board.specs.Sound.{IsBoard}
use Rattle.answer_board.proofs.Log.{log-answers}
use Rattle.plan_machine.specs.Laws.{IsPage}
use Rattle.plan_machine.specs.Machine.{Machine, TooMany, Rests, goes, step, after, start}
use Rattle.plan_machine.specs.Progress.{Ready}
use Rattle.plan_machine.specs.Rests.{text_so_far}
use Rattle.plan_machine.specs.Told.{told_by, told_of_answer, told}
use Rattle.plan_machine.proofs.Stacks.{settled_ready}
use Rattle.plan_runner.specs.declared.advance.Progress.{Progress}
use Rattle.plan_runner.specs.declared.machine.Machine as code_machine
use Rattle.plan_runner.specs.Plain.{plain_outcome}
use Rattle.plan_runner.specs.Resumed.{StandsAt}
use Rattle.plan_runner.specs.Running.{IsTemplate, IsRunning, IsDone, last_step}
use Rattle.plan_runner.specs.Shown.{url_in, tree_in, shown_frame, shown_machine, first_frame, IsPlaced, ArePlaced}
use Rattle.plan_runner.proofs.Replies.{url_of_answer}

-- the page's own answer, by its slot
module _ (b : board.State) (sound : IsBoard b) (u : List ℕ) where
  pub own_is : (slot : ℕ) (a : Answered) → Some slot ≡ number_of b.slots u → Some a ≡ answer_at b.slots slot → answer_of (log_of b) u ≡ Some a
  own_is slot a is there = log-answers b sound u ∙ ap (λ (o : Option ℕ). option_and_then (answer_at b.slots) o) (sym is) ∙ sym there

  pub own_missing : (slot : ℕ) → Some slot ≡ number_of b.slots u → None ≡ answer_at b.slots slot → answer_of (log_of b) u ≡ None
  own_missing slot is there = log-answers b sound u ∙ ap (λ (o : Option ℕ). option_and_then (answer_at b.slots) o) (sym is) ∙ sym there

  pub own_unknown : None ≡ number_of b.slots u → answer_of (log_of b) u ≡ None
  own_unknown is = log-answers b sound u ∙ ap (λ (o : Option ℕ). option_and_then (answer_at b.slots) o) (sym is)

module _ (b : board.State) (sound : IsBoard b) (u : List ℕ) where
  pub own_found : (a : Answered) → Some a ≡ option_and_then (answer_at b.slots) (number_of b.slots u) → answer_of (log_of b) u ≡ Some a
  own_found a is = log-answers b sound u ∙ sym is

  pub own_absent : None ≡ option_and_then (answer_at b.slots) (number_of b.slots u) → IsTemplate (log_of b) u → ⊥
  own_absent none own =
      let e : answer_of (log_of b) u ≡ None = log-answers b sound u ∙ sym none in
      let missing : is_missing (log_of b) u ≡ true = ap is_none e in
      absurd (cc (missing, own.page.logged))

  pub own_got : (a : Answered) → Some a ≡ option_and_then (answer_at b.slots) (number_of b.slots u) → (t : Elements) (head : Head) (page : IsPage (log_of b) u t head)
      → a.reply ≡ Got head page.control page.body
  own_got a is t head page = ap reply_in (sym (own_found a is)) ∙ page.reply

  pub own_failed : (a : Answered) → Some a ≡ option_and_then (answer_at b.slots) (number_of b.slots u) → a.reply ≡ Failed → IsTemplate (log_of b) u → ⊥
  own_failed a is failed own =
      let got : a.reply ≡ Got own.head own.page.control own.page.body = own_got a is own.tree own.head own.page in
      absurd (cc (failed, got))

-- a page of this reply's head and this text
head_with : List ℕ → Reply → Shown
head_with text Failed = Fault IncludeFailed
head_with text (Got head control body) = Page head text

pub end_shown : (a : Answered) (own copy head : Head) (control other : Control) (body bytes : List ℕ) (failed : Bool) (out given : List (List ℕ)) → a.reply ≡ Got own control body → a.reply ≡ Got head other bytes
    → copy ≡ own → given ≡ out → failed ≡ false → Page copy (joined given) ≡ text_outcome head (text_so_far failed out)
unfolding head_with
end_shown a own copy head control other body bytes failed out given x y copied same whole =
    let heads : Got own control body ≡ Got head other bytes = sym x ∙ y in
    ap (λ (h : Head). Page h (joined given)) copied ∙ ap (λ (o : List (List ℕ)). Page own (joined o)) same ∙ ap (head_with (joined out)) heads
    ∙ ap (λ (f : Bool). text_outcome head (text_so_far f out)) (sym whole)

plain_last : (reply : Reply) → last_step (plain_outcome reply) ≡ 0
plain_last Failed = refl
plain_last (Got head control body) = refl

-- what is told at once
module _ (r : Request) (log : List Answered) (L : ℕ) (u : List ℕ) (k : ℕ) where
  plain_reply : (reply : Reply) → processed reply ≡ false → (url : List ℕ) → told_of_answer r log L u k (Some (record { url = url; reply = reply })) ≡ Some (Done (plain_outcome reply))
  plain_reply Failed plain url = refl
  plain_reply (Got head control body) plain url = rw plain refl

  pub plain_told : (a : Answered) → answer_of log u ≡ Some a → processed a.reply ≡ false → (o : Shown) → o ≡ plain_outcome a.reply → told r log L u k ≡ Some (Done o)
  unfolding told
  plain_told a found plain o is = ap (told_of_answer r log L u k) found ∙ plain_reply a.reply plain a.url ∙ ap (λ (x : Shown). Some (Done x)) (sym is)

  bad_reply : (reply : Reply) (place : ℕ) → processed reply ≡ true → tree_of (body_of reply) ≡ Err place → (url : List ℕ) → told_of_answer r log L u k (Some (record { url = url; reply = reply })) ≡ Some (Done (Fault (BadTemplate place)))
  bad_reply Failed place template bad url = absurd (cc)
  bad_reply (Got head control body) place template bad url = rw (template, bad) refl

  pub bad_told : (a : Answered) → answer_of log u ≡ Some a → (place : ℕ) → (processed a.reply ≡ true) × (tree_of (body_of a.reply) ≡ Err place) → told r log L u k ≡ Some (Done (Fault (BadTemplate place)))
  unfolding told
  bad_told a found place bad = ap (told_of_answer r log L u k) found ∙ bad_reply a.reply place bad.0 bad.1 a.url

  by_answer : (t : Elements) (head : Head) (o : Option Answered) → answer_of log u ≡ o → IsPage log u t head → (m : Machine) → after r log k (start L u t) ≡ Some m
      → told_of_answer r log L u k o ≡ told_by head m (step r log m)
  by_answer t head None is page m there =
      let missing : is_missing log u ≡ true = ap is_none is in
      absurd (cc (missing, page.logged))
  by_answer t head (Some a) is page m there =
      let reply : a.reply ≡ Got head page.control page.body = ap reply_in (sym is) ∙ page.reply in
      rw (reply, page.is_template, page.is_tree, there) refl

  pub template_told : (t : Elements) (head : Head) → IsPage log u t head → (m : Machine) → after r log k (start L u t) ≡ Some m
      → told r log L u k ≡ told_by head m (step r log m)
  unfolding told
  template_told t head page m there = by_answer t head (answer_of log u) refl page m there

pub plain_done : (r : Request) (L : ℕ) (u : List ℕ) (b : board.State) (a : Answered) → answer_of (log_of b) u ≡ Some a → processed a.reply ≡ false → (o : Shown) → o ≡ plain_outcome a.reply → IsDone r L u b 0 o
plain_done r L u b a found plain o is =
    let none : last_step o ≡ 0 = ap last_step is ∙ plain_last a.reply in
    record { count = 0; tells = plain_told r (log_of b) L u 0 a found plain o is; planned = inr refl; steps_are = omega (arith, none) }

pub bad_done : (r : Request) (L : ℕ) (u : List ℕ) (b : board.State) (a : Answered) → answer_of (log_of b) u ≡ Some a → (place : ℕ) → (processed a.reply ≡ true) × (tree_of (body_of a.reply) ≡ Err place) → IsDone r L u b 0 (Fault (BadTemplate place))
bad_done r L u b a found place bad = record { count = 0; tells = bad_told r (log_of b) L u 0 a found place bad; planned = inr refl; steps_are = omega arith }

-- the page's own answer, where it is a template
page_of : (log : List Answered) (u : List ℕ) (t : Elements) (a : Answered) (reply : Reply) → a.reply ≡ reply → answer_of log u ≡ Some a → processed reply ≡ true → tree_of (body_of reply) ≡ Ok t → IsTemplate log u
page_of log u t a Failed is found template read = absurd (cc)
page_of log u t a (Got head control body) is found template read =
    record { tree = t; head = head; page = record { control = control; body = body; logged = ap is_none found; reply = ap reply_in found ∙ is; is_template = template; is_tree = read } }

first_after : (r : Request) (log : List Answered) (x : Machine) → after r log 0 x ≡ Some x
unfolding after
first_after r log x = refl

tree_is : (log : List Answered) (u : List ℕ) (t : Elements) (a : Answered) (reply : Reply) (is : a.reply ≡ reply) (found : answer_of log u ≡ Some a) (template : processed reply ≡ true) (read : tree_of (body_of reply) ≡ Ok t)
    → (page_of log u t a reply is found template read).tree ≡ t
unfolding page_of
tree_is log u t a Failed is found template read = absurd (cc)
tree_is log u t a (Got head control body) is found template read = refl

module _ (r : Request) (L : ℕ) (u : List ℕ) (b : board.State) where
  -- a page before its first step
  pub begun : (slot : ℕ) (a : Answered) (plan : Plan) → Some a ≡ answer_at b.slots slot → answer_of (log_of b) u ≡ Some a → (processed a.reply ≡ true) × IsPlanOf (body_of a.reply) plan
      → (m : code_machine.Machine) (end : ℕ) → end ≡ length (steps_in plan)
      → shown_machine b m ≡ goes 0 [] (shown_frame b (first_frame slot end L) ∷ [])
      → (IsPlaced b (first_frame slot end L) → ArePlaced b m.frames)
      → (p : Progress) → p ≡ record { machine = m; steps = 0 } → IsRunning r L u b p
  begun slot a plan there found form m end far shown placed p is =
      let planned : IsPlanOf (body_of a.reply) plan = form.1 in
      let own : IsTemplate (log_of b) u = page_of (log_of b) u planned.t a a.reply refl found form.0 planned.read in
      let same : own.tree ≡ planned.t = tree_is (log_of b) u planned.t a a.reply refl found form.0 planned.read in
      let url : a.url ≡ u = url_of_answer (log_of b) u a found in
      let tree : tree_in (answer_at b.slots slot) ≡ own.tree = rw (← there, planned.read) (sym same) in
      let w : url_in (answer_at b.slots slot) ≡ u = rw (← there) url in
      let last : end ≡ length (code_of own.tree) = far ∙ ap length planned.steps_are ∙ ap (λ (t : Elements). length (code_of t)) (sym same) in
      let first : shown_machine b m ≡ start L u own.tree = rw (shown, w, tree, last) refl in
      let machine : p.machine ≡ m = ap (λ (q : Progress). q.machine) is in
      let here : shown_machine b p.machine ≡ start L u own.tree = ap (shown_machine b) machine ∙ first in
      record {
        tree = own.tree;
        head = own.head;
        page = own.page;
        stands = record { count = 0; there = first_after r (log_of b) (start L u own.tree) ∙ ap Some (sym here); steps = ap (λ (q : Progress). q.steps) is };
        placed = subst (λ (x : code_machine.Machine). ArePlaced b x.frames) (sym machine) (placed (record { answer = a; tree = planned.t; there = sym there; is_processed = form.0; is_tree = planned.read }));
        going = ap (λ (x : Machine). x.failed) here;
        ready = subst (λ (x : Machine). Ready x.failed x.frames) (sym here) (settled_ready (record { url = u; tree = own.tree; level = L; at = 0; end = length (code_of own.tree); handlers = [] } ∷ []));
      }

  -- the machine is at one leg too many
  pub too_many : (p : Progress) (tree : Elements) (head : Head) → IsPage (log_of b) u tree head → StandsAt r b (start L u tree) p
      → step r (log_of b) (shown_machine b p.machine) ≡ TooMany → (steps : ℕ) → steps ≡ min (p.steps + 1) 18446744073709551615 → IsDone r L u b steps (Fault TooManyLegs)
  too_many p tree head page s full steps is = record {
    count = s.count;
    tells = template_told r (log_of b) L u s.count tree head page _ s.there ∙ ap (told_by head (shown_machine b p.machine)) full;
    planned = inl (record { tree = tree; head = head; page = page });
    steps_are = omega (arith, is, s.steps);
  }

  no_more : (head : Head) (text : Option (List ℕ)) → last_step (text_outcome head text) ≡ 0
  no_more head None = refl
  no_more head (Some text) = refl

  -- the machine is at its end
  pub at_end : (p : Progress) (tree : Elements) (head : Head) → IsPage (log_of b) u tree head → StandsAt r b (start L u tree) p
      → step r (log_of b) (shown_machine b p.machine) ≡ Rests → (o : Shown) → o ≡ text_outcome head (text_so_far p.machine.failed p.machine.out) → (steps : ℕ) → steps ≡ p.steps → IsDone r L u b steps o
  at_end p tree head page s rests o is steps same =
      let none : last_step o ≡ 0 = ap last_step is ∙ no_more head (text_so_far p.machine.failed p.machine.out) in
      record {
        count = s.count;
        tells =
            template_told r (log_of b) L u s.count tree head page _ s.there ∙ ap (told_by head (shown_machine b p.machine)) rests
            ∙ ap (λ (x : Shown). Some (Done x)) (sym is);
        planned = inl (record { tree = tree; head = head; page = page });
        steps_are = omega (arith, same, s.steps, none);
      }
