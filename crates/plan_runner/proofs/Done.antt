-- A page that is done stays done when more answers come in.
use Rattle.std.proofs.Common.{◌≡◌, ℕ, zero, suc, ◌+◌, Bool, true, false, nat_lt, List, [], ◌∷◌, ◌++◌, slice_get, Option, Some, None, Result, Ok, Err, if◌then◌else◌, refl, ◌∙◌, ap, subst}
use Rattle.edge_types.specs.declared.head.Head.{Head}
use Rattle.edge_types.specs.declared.request.Request.{Request}
use Rattle.edge_types.specs.declared.answer.Reply.{Reply}
use Rattle.edge_types.specs.declared.answer.Reply.TheVariants.{Failed, Got}
use Rattle.edge_types.specs.Answered.{Answered, processed}
use Rattle.edge_types.specs.Asked.{resolve}
use Rattle.edge_types.specs.Outcome.{Shown}
use Rattle.edge_types.specs.Table.{is_of, answer_of}
use Rattle.esi_tree.specs.Reading.{tree_of}
use Rattle.esi_tree.specs.Tree.{Elements}
use Rattle.esi_vars.specs.declared.part.Part.{Part}
use Rattle.esi_vars.specs.Values.{substituted}
use Rattle.esi_meaning.specs.Meaning.{most_legs}
use Rattle.esi_meaning.specs.State.{State, Done}
use Rattle.plan_compiler.specs.declared.inline.Inline.{Inline}
use Rattle.plan_compiler.specs.Code.{code_of}
use Rattle.plan_compiler.specs.Plan.{Step, Text, Values, Test, Jump, Try, EndTry, Leg}
use Rattle.plan_compiler.specs.Urls.{entry_for}
use Rattle.plan_machine.specs.Machine.{Frame, Machine, Next, Went, Waits, TooMany, Rests, asking_leg, named_leg, resolved_leg, leg_at, doing, step_here, step_in, step, moved, after, start}
use Rattle.plan_machine.specs.Told.{told_by, told_at, told_of_tree, told_of_reply, told_of_answer, told}
use Rattle.plan_machine.proofs.Growth.{found_in_more, after_stays}

-- a step that isn't the end of the machine
Makes : Next → Type 0
Makes (Went m) = Unit {0}
Makes (Waits level w) = Unit {0}
Makes TooMany = ⊥
Makes Rests = ⊥

module _ (r : Request) (log : List Answered) where
  asking_makes : (legs : ℕ) (out : List (List ℕ)) (fs : List Frame) (n : ℕ) (w : List ℕ) (o : Option Answered) → Makes (asking_leg r log legs out fs n w o)
  unfolding Makes
  asking_makes legs out fs n w None = tt
  asking_makes legs out fs n w (Some a) = tt

  named_makes : (legs : ℕ) (out : List (List ℕ)) (f : Frame) (fs : List Frame) (n : ℕ) (w : List ℕ) (o : Option Inline) → Makes (named_leg r log legs out f fs n w o)
  unfolding Makes
  named_makes legs out f fs n w None = asking_makes legs out (f ∷ fs) n w (answer_of log w)
  named_makes legs out f fs n w (Some i) = tt

  resolved_makes : (legs : ℕ) (out : List (List ℕ)) (f : Frame) (fs : List Frame) (n : ℕ) (o : Option (List ℕ)) → Makes (resolved_leg r log legs out f fs n o)
  unfolding Makes
  resolved_makes legs out f fs n None = tt
  resolved_makes legs out f fs n (Some w) = named_makes legs out f fs n w (entry_for f.url w f.tree)

  leg_makes : (legs : ℕ) (out : List (List ℕ)) (f : Frame) (fs : List Frame) (s : List Part) (n : ℕ) → Makes (leg_at r log legs out f fs s n)
  unfolding Makes
  leg_makes legs out f fs s zero = tt
  leg_makes legs out f fs s (suc n) = resolved_makes legs out f fs n (resolve f.url (substituted r s))

-- the end of a machine is its end over more answers
module _ (r : Request) (log more : List Answered) where
  EndStays : Next → Next → Type 0
  EndStays a b = (x : Next) → (Makes x → ⊥) → a ≡ x → b ≡ x

  if_ends : (b : Bool) (x y : Next) → Makes x → EndStays (if b then x else TooMany) (if b then y else TooMany)
  unfolding EndStays
  if_ends true x y makes z ends e = absurd (ends (subst Makes e makes))
  if_ends false x y makes z ends e = e

  went_ends : (m n : Machine) → EndStays (Went m) (Went n)
  unfolding EndStays Makes
  went_ends m n z ends e = absurd (ends (subst Makes e tt))

  doing_ends : (legs : ℕ) (out : List (List ℕ)) (f : Frame) (fs : List Frame) (s : Step) → EndStays (doing r log legs out f fs s) (doing r (log ++ more) legs out f fs s)
  doing_ends legs out f fs (Text text) = went_ends _ _
  doing_ends legs out f fs (Values parts) = went_ends _ _
  doing_ends legs out f fs (Test test skip) = went_ends _ _
  doing_ends legs out f fs (Jump skip) = went_ends _ _
  doing_ends legs out f fs (Try skip) = went_ends _ _
  doing_ends legs out f fs (EndTry skip) = went_ends _ _
  doing_ends legs out f fs (Leg s) = if_ends (nat_lt legs most_legs) (leg_at r log (legs + 1) out f fs s f.level) (leg_at r (log ++ more) (legs + 1) out f fs s f.level) (leg_makes r log (legs + 1) out f fs s f.level)

  here_ends : (legs : ℕ) (out : List (List ℕ)) (f : Frame) (fs : List Frame) (o : Option Step) → EndStays (step_here r log legs out f fs o) (step_here r (log ++ more) legs out f fs o)
  unfolding EndStays
  here_ends legs out f fs None x ends e = e
  here_ends legs out f fs (Some s) x ends e = doing_ends legs out (moved f (f.at + 1)) fs s x ends e

  in_ends : (legs : ℕ) (out : List (List ℕ)) (fs : List Frame) → EndStays (step_in r log legs out fs) (step_in r (log ++ more) legs out fs)
  unfolding EndStays
  in_ends legs out [] x ends e = e
  in_ends legs out (f ∷ fs) x ends e = here_ends legs out f fs (slice_get (code_of f.tree) f.at) x ends e

  step_ends : (m : Machine) → EndStays (step r log m) (step r (log ++ more) m)
  unfolding step
  step_ends m = in_ends m.legs m.out m.frames

  module _ (L : ℕ) (u : List ℕ) (k : ℕ) (o : Shown) where
    by_next : (head : Head) (m : Machine) (x : Next) → step r log m ≡ x → told_by head m x ≡ Some (Done o) → told_by head m (step r (log ++ more) m) ≡ Some (Done o)
    unfolding EndStays Makes
    by_next head m (Went n) e is = absurd (cc)
    by_next head m (Waits n w) e is = absurd (cc)
    by_next head m TooMany e is = ap (told_by head m) (step_ends m TooMany (λ x. x) e) ∙ is
    by_next head m Rests e is = ap (told_by head m) (step_ends m Rests (λ x. x) e) ∙ is

    by_machine : (head : Head) (t : Elements) (x : Option Machine) → after r log k (start L u t) ≡ x → told_at r log head x ≡ Some (Done o)
        → told_at r (log ++ more) head (after r (log ++ more) k (start L u t)) ≡ Some (Done o)
    by_machine head t None there is = absurd (cc)
    by_machine head t (Some m) there is =
        ap (told_at r (log ++ more) head) (after_stays r log more k (start L u t) m there) ∙ by_next head m (step r log m) refl is

    by_tree : (head : Head) (t : Result Elements ℕ) → told_of_tree r log L u k head t ≡ Some (Done o) → told_of_tree r (log ++ more) L u k head t ≡ Some (Done o)
    by_tree head (Ok t) is = by_machine head t (after r log k (start L u t)) refl is
    by_tree head (Err place) is = is

    by_kind : (head : Head) (body : List ℕ) (b : Bool) (plain : Option State) → (if b then told_of_tree r log L u k head (tree_of body) else plain) ≡ Some (Done o)
        → (if b then told_of_tree r (log ++ more) L u k head (tree_of body) else plain) ≡ Some (Done o)
    by_kind head body true plain is = by_tree head (tree_of body) is
    by_kind head body false plain is = is

    by_reply : (reply : Reply) → told_of_reply r log L u k reply ≡ Some (Done o) → told_of_reply r (log ++ more) L u k reply ≡ Some (Done o)
    by_reply Failed is = is
    by_reply (Got head control body) is = by_kind head body (processed (Got head control body)) _ is

    by_answer : (x : Option Answered) → answer_of log u ≡ x → told_of_answer r log L u k x ≡ Some (Done o) → told_of_answer r (log ++ more) L u k (answer_of (log ++ more) u) ≡ Some (Done o)
    by_answer None here is = absurd (cc)
    by_answer (Some a) here is = ap (told_of_answer r (log ++ more) L u k) (found_in_more (is_of u) log more a here) ∙ by_reply a.reply is

    pub done_stays : told r log L u k ≡ Some (Done o) → told r (log ++ more) L u k ≡ Some (Done o)
    unfolding told
    done_stays is = by_answer (answer_of log u) refl is
