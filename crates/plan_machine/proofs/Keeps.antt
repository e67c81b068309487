-- One step keeps what the page comes to: the legs tried before, and then what is still to come.
use Rattle.std.proofs.Common.{◌≡◌, ℕ, zero, suc, ◌+◌, ◌-◌, ◌<◌, ◌≤◌, Bool, true, false, nat_lt, List, [], ◌∷◌, ◌++◌, length, take, drop, slice_get, Option, Some, None, Result, Ok, Err, is_none, if◌then◌else◌, refl, sym, ◌∙◌, ap, subst, arith}
use Rattle.std.specs.List.{AllByRecursion}
use Rattle.std.specs.Option.{option_map}
use Rattle.std.proofs.Math.Seq.{take-length}
use borrow.Author.Tests.{ltb-true}
use Rattle.edge_types.specs.declared.request.Request.{Request}
use Rattle.edge_types.specs.declared.answer.Reply.{Reply}
use Rattle.edge_types.specs.Answered.{Answered, succeeded, processed_as_fragment, body_of}
use Rattle.edge_types.specs.Asked.{resolve}
use Rattle.edge_types.specs.Pieces.{joined, with_piece, with_pieces}
use Rattle.edge_types.specs.Table.{answer_of, reply_in, reply_of}
use Rattle.esi_vars.specs.declared.part.Part.{Part}
use Rattle.esi_vars.specs.Values.{substituted, value_pieces}
use Rattle.esi_vars.proofs.ValuesLemmas.{joined_values}
use Rattle.esi_expr.specs.Truth.{holds}
use Rattle.esi_tree.specs.Tree.{Elements}
use Rattle.esi_tree.specs.Reading.{tree_of}
use Rattle.esi_meaning.specs.Inlines.{inline_for}
use Rattle.esi_meaning.specs.Meaning.{elements_run, unprocessed_run, template_run, reply_run, named_run, resolved_run, leg_run, most_legs}
use Rattle.esi_meaning.specs.Run.{Leg as RunLeg, Asks, AsksNobody, Run, gives, tries, followed, with_front}
use Rattle.esi_meaning.specs.State.{is_missing, lacks}
use Rattle.plan_compiler.specs.Plan.{Step, Text, Values, Test, Jump, Try, EndTry, Leg}
use Rattle.plan_compiler.specs.Code.{code_of}
use Rattle.plan_compiler.specs.declared.inline.Inline.{Inline}
use Rattle.plan_compiler.specs.Urls.{entry_for}
use Rattle.plan_compiler.specs.Machine.{Handler as FlowHandler, outer, failing, resumed, act, flow}
use Rattle.plan_machine.specs.declared.handler.Handler.{Handler}
use Rattle.plan_machine.specs.Machine.{Frame, Machine, Went, TooMany, moved, handled, goes, unwound, without_first, plain_leg, template_leg, asking_leg, named_leg, resolved_leg, leg_at, doing, step_here, step_in, step}
use Rattle.plan_machine.specs.LastLeg.{named_as, resolved_as, leg_as, tried_by, tried_here, tried_in}
use Rattle.plan_machine.specs.Progress.{Ready}
use Rattle.plan_machine.specs.Rests.{flow_handlers, steps_left, resume, rests, text_so_far, still_to_come}
use Rattle.esi_meaning.proofs.RunLemmas.{followed-followed}
use Rattle.plan_compiler.proofs.Flow.{plan_means_the_tree}
use Rattle.plan_compiler.proofs.Single.{templates_are_single}
use Rattle.plan_machine.proofs.Entries.{entry_means, entry_within}
use Rattle.plan_machine.proofs.Flows.{run_of, flow_handler, closer-flow_handlers, flow_after, left_cons}
use Rattle.plan_machine.proofs.Stacks.{handlers_of, Marked, FitsIn, Well, marked_below, SameBelow, same_itself, same_push, same_push_all, joined_push, joined_push_all, longer, longer_by_all, goes_is, moved_is, unwound_is, WellMachine, goes_machine, unwound_machine, unwound_legs}

abbrev Going : Type 0
Going = ℕ → List FlowHandler → List ℕ → Run

-- the log has the answer of each URL that these legs ask
abbrev pub AreLogged : List Answered → List RunLeg → Type 0
AreLogged log legs = AllByRecursion (λ (l : RunLeg). lacks log l ≡ false) legs

-- these legs were tried, so many before them, and the machine m comes to what is still to come
pub record Kept (r : Request) (log : List Answered) (legs : ℕ) (tried : List RunLeg) (whole : Run) (m : Machine) : Type 0 where
  pub sum : m.legs ≡ legs + length tried
  pub logged : AreLogged log tried
  pub same : whole ≡ run_of (tried ++ (still_to_come r log m).legs) (still_to_come r log m).text
  pub well : WellMachine m
  pub few : legs ≤ most_legs → m.legs ≤ most_legs

-- the leg that the run tries first is this one, and it has the text and the other legs of that run
abbrev TriesFirst : Run → RunLeg → Run → Type 0
TriesFirst leg l run = leg ≡ tries l run

module _ (r : Request) (log : List Answered) where
  kept_as : (legs : ℕ) (tried : List RunLeg) (whole : Run) (x m : Machine) → Kept r log legs tried whole x → Went x ≡ Went m → Kept r log legs tried whole m
  kept_as legs tried whole x m k e =
      let same : x ≡ m = cc in
      subst (λ (y : Machine). Kept r log legs tried whole y) same k

  kept_alone : (legs : ℕ) (whole : Run) (m : Machine) → whole ≡ still_to_come r log m → m.legs ≡ legs → WellMachine m → Kept r log legs [] whole m
  kept_alone legs whole m same sum well = record { sum = omega (arith, sum); logged = tt; same = same; well = well; few = λ h. omega (arith, sum, h) }

  kept_tried : (l : RunLeg) (legs : ℕ) → legs < most_legs → (rest : Run) (m : Machine) → lacks log l ≡ false → rest ≡ still_to_come r log m → m.legs ≡ legs + 1 → WellMachine m
      → Kept r log legs (l ∷ []) (run_of (l ∷ rest.legs) rest.text) m
  kept_tried l legs room rest m is same sum well =
      record { sum = omega (arith, sum); logged = (is, tt); same = ap (λ (x : Run). run_of (l ∷ x.legs) x.text) same; well = well; few = λ h. omega (arith, sum, room) }

  module _ (legs : ℕ) (out : List (List ℕ)) (f : Frame) (fs : List Frame) (well : Well out (f ∷ fs)) where
    abbrev go : Going
    go = λ (k : ℕ) (cs : List FlowHandler) (o : List ℕ). flow r (leg_run r log f.level f.url f.tree) k (steps_left f) cs o

    abbrev here_handlers : List FlowHandler
    here_handlers = flow_handlers f.at out f.handlers

    -- what follows the frame
    abbrev below : Option (List ℕ) → Run
    below = resume r (rests r log out fs)

    -- the frames that go on after a leg
    abbrev behind : Option (List ℕ) → Run
    behind = resume r (rests r log out (f ∷ fs))

    well_at : (at : ℕ) (hs : List Handler) (new : List (List ℕ)) → length out ≤ length new → Marked (length new) (hs ++ handlers_of fs) → Well new (handled f at hs ∷ fs)
    well_at at hs new le m = record { marks = m; fits = well.fits }

    -- a step that goes on in the frame
    goes_on : (at k : ℕ) (hs : List Handler) (new : List (List ℕ)) → at ≡ f.at + k → SameBelow (length out) out new → length out ≤ length new → Marked (length out) (hs ++ handlers_of fs)
        → (n : ℕ) → Kept r log n [] (followed (go k (flow_handlers f.at out hs) (joined new)) below) (goes n new (handled f at hs ∷ fs))
    goes_on at k hs new here s le m n =
        kept_alone n (followed (go k (flow_handlers f.at out hs) (joined new)) below) (goes n new (handled f at hs ∷ fs))
        (moved_is r log f fs out new (length out) k at hs (joined new) here s m ∙ sym (goes_is r log n new (handled f at hs ∷ fs))) refl
        (goes_machine n new (handled f at hs ∷ fs) (well_at at hs new le (marked_below (length out) (length new) (hs ++ handlers_of fs) le m)))

    -- output that has more text than before
    put_is : (n : ℕ) (text : List ℕ) (new : List (List ℕ)) → joined new ≡ joined out ++ text → SameBelow (length out) out new
        → followed (go zero here_handlers (joined out ++ text)) below ≡ still_to_come r log (goes n new (f ∷ fs))
    put_is n text new more same =
        ap (λ (o : List ℕ). followed (go zero here_handlers o) below) (sym more)
        ∙ moved_is r log f fs out new (length out) zero f.at f.handlers (joined new) (omega arith) same well.marks
        ∙ sym (goes_is r log n new (f ∷ fs))

    put_well : (n : ℕ) (new : List (List ℕ)) → length out ≤ length new → WellMachine (goes n new (f ∷ fs))
    put_well n new le =
        goes_machine n new (f ∷ fs) (record { marks = marked_below (length out) (length new) (handlers_of (f ∷ fs)) le well.marks; fits = well.fits })

    put : (text : List ℕ) (new : List (List ℕ)) → joined new ≡ joined out ++ text → SameBelow (length out) out new → length out ≤ length new
        → Kept r log legs [] (followed (go zero here_handlers (joined out ++ text)) below) (goes legs new (f ∷ fs))
    put text new more same le =
        kept_alone legs (followed (go zero here_handlers (joined out ++ text)) below) (goes legs new (f ∷ fs)) (put_is legs text new more same) refl (put_well legs new le)

    texted_is : (n : ℕ) (text : List ℕ) → followed (go zero here_handlers (joined out ++ text)) below ≡ still_to_come r log (goes n (with_piece out text) (f ∷ fs))
    texted_is n text = put_is n text (with_piece out text) (joined_push out text) (same_push out text)

    texted_well : (n : ℕ) (text : List ℕ) → WellMachine (goes n (with_piece out text) (f ∷ fs))
    texted_well n text = put_well n (with_piece out text) (longer out text)

    texted : (text : List ℕ) → Kept r log legs [] (followed (go zero here_handlers (joined out ++ text)) below) (goes legs (with_piece out text) (f ∷ fs))
    texted text = put text (with_piece out text) (joined_push out text) (same_push out text) (longer out text)

    failed_is : (n : ℕ) → followed (failing go here_handlers) below ≡ still_to_come r log (unwound n out (f ∷ fs))
    failed_is n = sym (unwound_is r log n out (f ∷ fs) well.marks)

    -- what a leg of this run comes to, in the frame
    abbrev legged : Run → Run
    legged leg = followed (followed leg (resumed go here_handlers (joined out))) below

    module _ (room : legs < most_legs) where
      -- a leg that fails, one that has a text, and one that is a frame of its own
      failed_leg : (l : RunLeg) → lacks log l ≡ false → (m : Machine) → Went (unwound (legs + 1) out (f ∷ fs)) ≡ Went m → Kept r log legs (l ∷ []) (legged (tries l (gives None))) m
      failed_leg l is m e =
          kept_as legs (l ∷ []) (legged (tries l (gives None))) (unwound (legs + 1) out (f ∷ fs)) m
          (kept_tried l legs room (followed (failing go here_handlers) below) (unwound (legs + 1) out (f ∷ fs)) is (failed_is (legs + 1)) (unwound_legs (legs + 1) out (f ∷ fs)) (unwound_machine (legs + 1) out (f ∷ fs) well)) e

      text_leg : (l : RunLeg) (text : List ℕ) → lacks log l ≡ false → (m : Machine) → Went (goes (legs + 1) (with_piece out text) (f ∷ fs)) ≡ Went m → Kept r log legs (l ∷ []) (legged (tries l (gives (Some text)))) m
      text_leg l text is m e =
          kept_as legs (l ∷ []) (legged (tries l (gives (Some text)))) (goes (legs + 1) (with_piece out text) (f ∷ fs)) m
          (kept_tried l legs room (followed (go zero here_handlers (joined out ++ text)) below) (goes (legs + 1) (with_piece out text) (f ∷ fs)) is (texted_is (legs + 1) text) refl (texted_well (legs + 1) text)) e

      on_behind : (o : Option (List ℕ)) → followed (resumed go here_handlers (joined out) o) below ≡ behind (with_front (joined out) o)
      on_behind None = refl
      on_behind (Some text) = refl

      followed_same : (a : Run) (g h : Option (List ℕ) → Run) → g a.text ≡ h a.text → followed a g ≡ followed a h
      followed_same a g h e = ap (λ (b : Run). run_of (a.legs ++ b.legs) b.text) e

      opened_is : (n : ℕ) (g : Frame) → g.handlers ≡ [] → legged (flow r (leg_run r log g.level g.url g.tree) zero (steps_left g) [] []) ≡ still_to_come r log (goes n out (g ∷ f ∷ fs))
      opened_is n g none =
          let leg : List Part → Run = leg_run r log g.level g.url g.tree in
          let own : Run = flow r leg zero (steps_left g) [] [] in
          let start : List ℕ = joined out in
          followed-followed own (resumed go here_handlers start) below
          ∙ followed_same own (λ o. followed (resumed go here_handlers start o) below) (λ o. behind (with_front start o)) (on_behind own.text)
          ∙ ap (λ (a : Run). followed a behind) (sym (flow_after r leg (steps_left g) start))
          ∙ ap (λ (hs : List Handler). followed (flow r leg zero (steps_left g) (flow_handlers g.at out hs) start) behind) (sym none)
          ∙ sym (goes_is r log n out (g ∷ f ∷ fs))

      opened : (l : RunLeg) (g : Frame) (run : Run) → lacks log l ≡ false → g.handlers ≡ [] → FitsIn g
          → run ≡ flow r (leg_run r log g.level g.url g.tree) zero (steps_left g) [] []
          → (m : Machine) → Went (goes (legs + 1) out (g ∷ f ∷ fs)) ≡ Went m → Kept r log legs (l ∷ []) (legged (tries l run)) m
      opened l g run is none fits means m e =
          let marks : Marked (length out) (handlers_of (g ∷ f ∷ fs)) = subst (λ (hs : List Handler). Marked (length out) (hs ++ handlers_of (f ∷ fs))) (sym none) well.marks in
          kept_as legs (l ∷ []) (legged (tries l run)) (goes (legs + 1) out (g ∷ f ∷ fs)) m
          (kept_tried l legs room (legged run) (goes (legs + 1) out (g ∷ f ∷ fs)) is (ap legged means ∙ opened_is (legs + 1) g none) refl
          (goes_machine (legs + 1) out (g ∷ f ∷ fs) (record { marks = marks; fits = (fits, well.fits) }))) e

      -- the answer of a leg
      plain_kept : (n : ℕ) (w : List ℕ) (body : List ℕ) → lacks log (Asks n w) ≡ false → (b : Bool) (m : Machine)
          → Went (if b then goes (legs + 1) (with_piece out body) (f ∷ fs) else unwound (legs + 1) out (f ∷ fs)) ≡ Went m
          → Kept r log legs (Asks n w ∷ []) (legged (tries (Asks n w) (gives (if b then Some body else None)))) m
      plain_kept n w body is true m e = text_leg (Asks n w) body is m e
      plain_kept n w body is false m e = failed_leg (Asks n w) is m e

      template_kept : (n : ℕ) (w : List ℕ) → lacks log (Asks (suc n) w) ≡ false → (text : List ℕ) (read : Result Elements ℕ) → tree_of text ≡ read → (m : Machine)
          → Went (template_leg r log (legs + 1) out (f ∷ fs) n w read) ≡ Went m → Kept r log legs (Asks (suc n) w ∷ []) (legged (tries (Asks (suc n) w) (template_run r (leg_run r log n) w read))) m
      template_kept n w is text (Ok t) tree_is m e =
          let g : Frame = record { url = w; tree = t; level = n; at = zero; end = length (code_of t); handlers = [] } in
          let whole : take (length (code_of t)) (code_of t) ≡ code_of t = take-length (code_of t) in
          opened (Asks (suc n) w) g (elements_run r (leg_run r log n w t) t) is refl (omega arith, templates_are_single text t tree_is)
          (sym (plan_means_the_tree r (leg_run r log n w t) t) ∙ ap (λ (ss : List Step). flow r (leg_run r log n w t) zero ss [] []) (sym whole)) m e
      template_kept n w is text (Err place) tree_is m e = failed_leg (Asks (suc n) w) is m e

      reply_kept : (n : ℕ) (w : List ℕ) (reply : Reply) → lacks log (Asks (suc n) w) ≡ false → (b : Bool) (m : Machine)
          → Went (if b then template_leg r log (legs + 1) out (f ∷ fs) n w (tree_of (body_of reply)) else plain_leg r log (legs + 1) out (f ∷ fs) reply) ≡ Went m
          → Kept r log legs (Asks (suc n) w ∷ []) (legged (tries (Asks (suc n) w) (if b then template_run r (leg_run r log n) w (tree_of (body_of reply)) else unprocessed_run reply))) m
      reply_kept n w reply is true m e = template_kept n w is (body_of reply) (tree_of (body_of reply)) refl m e
      reply_kept n w reply is false m e = plain_kept (suc n) w (body_of reply) is (succeeded reply) m e

      asking_kept : (n : ℕ) (w : List ℕ) (o : Option Answered) → answer_of log w ≡ o → (m : Machine) → asking_leg r log (legs + 1) out (f ∷ fs) n w o ≡ Went m
          → Kept r log legs (Asks (suc n) w ∷ []) (legged (tries (Asks (suc n) w) (reply_run r (leg_run r log n) w (reply_of log w)))) m
      asking_kept n w None is m e = absurd (cc)
      asking_kept n w (Some a) is m e =
          let logged : is_missing log w ≡ false = ap is_none is in
          let reply : reply_of log w ≡ a.reply = ap reply_in is in
          rw reply (reply_kept n w a.reply logged (processed_as_fragment a.reply) m e)

      -- the inline of the template, if one names the URL
      abbrev NamedAs : ℕ → List ℕ → Option Elements → Option Inline → Type 0
      NamedAs n w i p =
          option_map (λ (c : Elements). elements_run r (leg_run r log n f.url f.tree) c) i
          ≡ option_map (λ (p : Inline). flow r (leg_run r log n f.url f.tree) zero (drop p.first (take p.end (code_of f.tree))) [] []) p

      named_kept : (n : ℕ) (w : List ℕ) (i : Option Elements) (o : Option Inline) → NamedAs n w i o → entry_for f.url w f.tree ≡ o → (m : Machine) → named_leg r log (legs + 1) out f fs n w o ≡ Went m
          → Kept r log legs (named_as n w o ∷ []) (legged (named_run r (leg_run r log n) log (suc n) f.url f.tree w i)) m
      named_kept n w None None same is m e = asking_kept n w (answer_of log w) refl m e
      named_kept n w None (Some p) same is m e = absurd (cc)
      named_kept n w (Some c) None same is m e = absurd (cc)
      named_kept n w (Some c) (Some p) same is m e =
          let g : Frame = record { url = f.url; tree = f.tree; level = n; at = p.first; end = p.end; handlers = [] } in
          let means : elements_run r (leg_run r log n f.url f.tree) c ≡ flow r (leg_run r log n f.url f.tree) zero (drop p.first (take p.end (code_of f.tree))) [] [] = cc in
          opened AsksNobody g (elements_run r (leg_run r log n f.url f.tree) c) refl refl (entry_within f.url w f.tree p is, well.fits.0.1) means m e

      resolved_kept : (n : ℕ) (o : Option (List ℕ)) (m : Machine) → resolved_leg r log (legs + 1) out f fs n o ≡ Went m
          → Kept r log legs (resolved_as f n o ∷ []) (legged (resolved_run r (leg_run r log n) log (suc n) f.url f.tree o)) m
      resolved_kept n None m e = failed_leg AsksNobody refl m e
      resolved_kept n (Some w) m e =
          named_kept n w (inline_for f.url w f.tree) (entry_for f.url w f.tree) (entry_means r (leg_run r log n f.url f.tree) f.url w f.tree well.fits.0.1) refl m e

      leg_kept : (s : List Part) (n : ℕ) (m : Machine) → leg_at r log (legs + 1) out f fs s n ≡ Went m → Kept r log legs (leg_as r f s n ∷ []) (legged (leg_run r log n f.url f.tree s)) m
      leg_kept s zero m e = failed_leg AsksNobody refl m e
      leg_kept s (suc n) m e = resolved_kept n (resolve f.url (substituted r s)) m e

    leg_if : (s : List Part) (b : Bool) → nat_lt legs most_legs ≡ b → (m : Machine) → (if b then leg_at r log (legs + 1) out f fs s f.level else TooMany) ≡ Went m → Kept r log legs (leg_as r f s f.level ∷ []) (legged (leg_run r log f.level f.url f.tree s)) m
    leg_if s true is m e = leg_kept (ltb-true legs most_legs is) s f.level m e
    leg_if s false is m e = absurd (cc)

    without_is : (hs : List Handler) → flow_handlers f.at out (without_first hs) ≡ outer (flow_handlers f.at out hs)
    without_is [] = refl
    without_is (h ∷ hs) = refl

    without_marked : (b : ℕ) (hs rest : List Handler) → Marked b (hs ++ rest) → Marked b (without_first hs ++ rest)
    without_marked b [] rest m = m
    without_marked b (h ∷ hs) rest m = marked_below h.mark b (hs ++ rest) m.0 m.1

    -- one step of the frame
    abbrev done_by : Step → Run
    done_by s = followed (act r (leg_run r log f.level f.url f.tree) s go here_handlers (joined out)) below

    doing_kept : (s : Step) (m : Machine) → doing r log legs out f fs s ≡ Went m → Kept r log legs (tried_by r f s) (done_by s) m
    doing_kept (Text text) m e = kept_as legs [] (done_by (Text text)) (goes legs (with_piece out text) (f ∷ fs)) m (texted text) e
    doing_kept (Values parts) m e =
        let pieces : List (List ℕ) = value_pieces r [] parts in
        let more : joined (with_pieces out pieces) ≡ joined out ++ substituted r parts = joined_push_all out pieces ∙ ap (λ (x : List ℕ). joined out ++ x) (joined_values r [] parts) in
        kept_as legs [] (done_by (Values parts)) (goes legs (with_pieces out pieces) (f ∷ fs)) m (put (substituted r parts) (with_pieces out pieces) more (same_push_all out pieces) (longer_by_all out pieces)) e
    doing_kept (Test test skip) m e =
        let k : ℕ = if holds r test then zero else skip in
        kept_as legs [] (done_by (Test test skip)) (goes legs out (moved f (f.at + k) ∷ fs)) m (goes_on (f.at + k) k f.handlers out refl (same_itself (length out) out) (omega arith) well.marks legs) e
    doing_kept (Jump skip) m e =
        kept_as legs [] (done_by (Jump skip)) (goes legs out (moved f (f.at + skip) ∷ fs)) m (goes_on (f.at + skip) skip f.handlers out refl (same_itself (length out) out) (omega arith) well.marks legs) e
    doing_kept (Try skip) m e =
        let h : Handler = record { to = f.at + skip; mark = length out } in
        let far : (f.at + skip) - f.at ≡ skip = omega arith in
        let all : take (length out) out ≡ out = take-length out in
        let same : flow_handler skip (joined out) ∷ here_handlers ≡ flow_handlers f.at out (h ∷ f.handlers) = rw (far, all) refl in
        let k = goes_on f.at zero (h ∷ f.handlers) out (omega arith) (same_itself (length out) out) (omega arith) (omega arith, well.marks) legs in
        kept_as legs [] (done_by (Try skip)) (goes legs out (handled f f.at (h ∷ f.handlers) ∷ fs)) m
        (subst (λ (cs : List FlowHandler). Kept r log legs [] (followed (go zero cs (joined out)) below) (goes legs out (handled f f.at (h ∷ f.handlers) ∷ fs))) (sym same) k) e
    doing_kept (EndTry skip) m e =
        let hs : List Handler = without_first f.handlers in
        let k = goes_on (f.at + skip) skip hs out refl (same_itself (length out) out) (omega arith) (without_marked (length out) f.handlers (handlers_of fs) well.marks) legs in
        kept_as legs [] (done_by (EndTry skip)) (goes legs out (handled f (f.at + skip) hs ∷ fs)) m
        (subst (λ (cs : List FlowHandler). Kept r log legs [] (followed (go skip cs (joined out)) below) (goes legs out (handled f (f.at + skip) hs ∷ fs))) (without_is f.handlers) k) e
    doing_kept (Leg s) m e = leg_if s (nat_lt legs most_legs) refl m e

module _ (r : Request) (log : List Answered) where
  -- the frame before its step comes to that step, and then to what follows it
  abbrev pub whole_of : List (List ℕ) → List Frame → Run
  whole_of out fs = resume r (rests r log out fs) (Some (joined out))

  pub top_is : (out : List (List ℕ)) (f : Frame) (fs : List Frame) (s : Step) → slice_get (code_of f.tree) f.at ≡ Some s → f.at < f.end
      → whole_of out (f ∷ fs)
      ≡ followed (act r (leg_run r log f.level f.url f.tree) s (λ (k : ℕ) (cs : List FlowHandler) (o : List ℕ). flow r (leg_run r log f.level f.url f.tree) k (steps_left (moved f (f.at + 1))) cs o)
      (flow_handlers (f.at + 1) out f.handlers) (joined out)) (resume r (rests r log out fs))
  top_is out f fs s is within =
      let leg : List Part → Run = leg_run r log f.level f.url f.tree in
      let ss : List Step = drop (f.at + 1) (take f.end (code_of f.tree)) in
      let first : steps_left f ≡ s ∷ ss = left_cons (code_of f.tree) f.at f.end s is within in
      ap (λ (xs : List Step). followed (flow r leg zero xs (flow_handlers f.at out f.handlers) (joined out)) (resume r (rests r log out fs))) first
      ∙ ap (λ (cs : List FlowHandler). followed (act r leg s (λ (k : ℕ) (cs : List FlowHandler) (o : List ℕ). flow r leg k ss cs o) cs (joined out)) (resume r (rests r log out fs))) (closer-flow_handlers 1 f.at out f.handlers)

  -- a machine comes to the legs that a step tries, and then to what is still to come of the machine after it
  here_kept : (legs : ℕ) (out : List (List ℕ)) (f : Frame) (fs : List Frame) → Well out (f ∷ fs) → f.at < f.end → (o : Option Step) → slice_get (code_of f.tree) f.at ≡ o → (m : Machine)
      → step_here r log legs out f fs o ≡ Went m → Kept r log legs (tried_here r f o) (whole_of out (f ∷ fs)) m
  here_kept legs out f fs well within None is m e = absurd (cc)
  here_kept legs out f fs well within (Some s) is m e =
      let next : Frame = moved f (f.at + 1) in
      subst (λ (whole : Run). Kept r log legs (tried_by r next s) whole m) (sym (top_is out f fs s is within)) (doing_kept r log legs out next fs (record { marks = well.marks; fits = well.fits }) s m e)

  in_kept : (legs : ℕ) (out : List (List ℕ)) (failed : Bool) (fs : List Frame) → Well out fs → Ready failed fs → (m : Machine) → step_in r log legs out fs ≡ Went m
      → Kept r log legs (tried_in r fs) (resume r (rests r log out fs) (text_so_far failed out)) m
  in_kept legs out failed [] well ready m e = absurd (cc)
  in_kept legs out failed (f ∷ fs) well ready m e =
      subst (λ (b : Bool). Kept r log legs (tried_in r (f ∷ fs)) (resume r (rests r log out (f ∷ fs)) (text_so_far b out)) m) (sym ready.0) (here_kept legs out f fs well ready.1 (slice_get (code_of f.tree) f.at) refl m e)

  pub step_kept : (m n : Machine) → WellMachine m → step r log m ≡ Went n → Kept r log m.legs (tried_in r m.frames) (still_to_come r log m) n
  unfolding step still_to_come
  step_kept m n w e = in_kept m.legs m.out m.failed m.frames w.stack w.ready n e
