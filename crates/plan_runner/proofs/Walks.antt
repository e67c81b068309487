-- A walk over a plan finds what the meaning has fetched ahead.
use Rattle.std.proofs.Common.{◌≡◌, ℕ, zero, suc, ◌+◌, ◌≤◌, nat_lt, Bool, true, false, List, [], ◌∷◌, ◌++◌, length, drop, slice_get, filter_map, Option, Some, None, Ok, Err, if◌then◌else◌, refl, sym, ◌∙◌, ap, arith}
use Rattle.std.specs.Option.{option_map}
use Rattle.edge_types.specs.declared.request.Request.{Request}
use Rattle.edge_types.specs.Answered.{Answered, processed, body_of}
use Rattle.edge_types.specs.Asked.{resolve}
use Rattle.esi_expr.specs.Truth.{holds}
use Rattle.esi_meaning.specs.Ahead.{unless_inline, asked_url, ahead_sources, ahead, ahead_of}
use Rattle.esi_meaning.specs.Inlines.{inline_for}
use Rattle.esi_tree.specs.Reading.{tree_of}
use Rattle.esi_tree.specs.Tree.{Elements}
use Rattle.esi_vars.specs.declared.part.Part.{Part}
use Rattle.esi_vars.specs.Values.{substituted}
use Rattle.plan_compiler.specs.declared.inline.Inline.{Inline}
use Rattle.plan_compiler.specs.declared.plan.Plan.{Plan}
use Rattle.plan_compiler.specs.Ahead.{NextSources, step_sources, sources_from}
use Rattle.plan_compiler.specs.Bodies.{entries}
use Rattle.plan_compiler.specs.Code.{code_of}
use Rattle.plan_compiler.specs.Plan.{Step, Text, Values, Test, Jump, Try, EndTry, Leg}
use Rattle.plan_compiler.specs.Laws.{skip_of}
use Rattle.plan_compiler.specs.Prepared.{IsPlanOf}
use Rattle.plan_compiler.specs.Shown.{steps_in}
use Rattle.plan_compiler.specs.Urls.{entry_for, entry_among, entries_of}
use Rattle.plan_compiler.proofs.Entries.{first_entry_counts}
use Rattle.plan_compiler.proofs.Single.{templates_are_single}
use Rattle.plan_compiler.proofs.Sources.{plan_fetches_ahead}
use Rattle.answer_board.specs.Board.{State, number_of, KeepsFilled}
use Rattle.plan_runner.proofs.Stepping.{short_step}
use Rattle.plan_runner.specs.Ahead.{Opening, with_url, opened, opened_by}
use Rattle.plan_runner.specs.Walk.{passed_by, sources_at, unless_entry, asked_in, asked_by}

-- no room: no slot
pub full : (depth : ℕ) (ws : List (List ℕ)) (b : State) → opened depth ws (record { board = b; room = 0 }) ≡ record { board = b; room = 0 }
full depth [] b = refl
full depth (w ∷ ws) b = here (number_of b.slots w) (full depth ws b)
  where
    here : (o : Option ℕ) → opened depth ws (record { board = b; room = 0 }) ≡ record { board = b; room = 0 } → opened depth ws (with_url o depth w (record { board = b; room = 0 })) ≡ record { board = b; room = 0 }
    here None e = e
    here (Some number) e = e

pub none_by : (r : Request) (levels d : ℕ) (a : Answered) (b : State) (room : ℕ) → room ≡ 0 → record { board = b; room = room } ≡ opened_by r levels d a (record { board = b; room = room })
none_by r levels d a b room none =
    ap (λ (n : ℕ). record { board = b; room = n }) none ∙ either (nat_lt d levels) ∙ ap (λ (n : ℕ). opened_by r levels d a (record { board = b; room = n })) (sym none)
  where
    either : (x : Bool) → record { board = b; room = 0 } ≡ (if x then opened (d + 1) (ahead_of r a) (record { board = b; room = 0 }) else record { board = b; room = 0 })
    either true = sym (full (d + 1) (ahead_of r a) b)
    either false = refl

pub opened-append : (depth : ℕ) (xs ys : List (List ℕ)) (o : Opening) → opened depth (xs ++ ys) o ≡ opened depth ys (opened depth xs o)
opened-append depth [] ys o = refl
opened-append depth (x ∷ xs) ys o = opened-append depth xs ys (with_url (number_of o.board.slots x) depth x o)

pub asked-append : (f : List Part → Option (List ℕ)) (xs ys : List (List Part)) → filter_map f (xs ++ ys) ≡ filter_map f xs ++ filter_map f ys
asked-append f [] ys = refl
asked-append f (x ∷ xs) ys = by (f x) refl (asked-append f xs ys)
  where
    by : (o : Option (List ℕ)) → f x ≡ o → filter_map f (xs ++ ys) ≡ filter_map f xs ++ filter_map f ys → filter_map f (x ∷ xs ++ ys) ≡ filter_map f (x ∷ xs) ++ filter_map f ys
    by None e later = rw e later
    by (Some w) e later = rw e (ap (λ (l : List (List ℕ)). w ∷ l) later)

abbrev no_steps : List Step
no_steps = []

-- one step of the walk
step_parts : (r : Request) (s : Step) (next : NextSources) → step_sources r s next ≡ sources_at s ++ next (passed_by r s)
step_parts r (Text text) next = refl
step_parts r (Values parts) next = refl
step_parts r (Test test skip) next = refl
step_parts r (Jump skip) next = refl
step_parts r (Try skip) next = refl
step_parts r (EndTry skip) next = refl
step_parts r (Leg source) next = refl

skipped : (r : Request) (n : ℕ) (ss : List Step) → sources_from r n ss ≡ sources_from r zero (drop n ss)
skipped r zero [] = refl
skipped r zero (s ∷ ss) = refl
skipped r (suc n) [] = refl
skipped r (suc n) (s ∷ ss) = skipped r n ss

drop_more : (at : ℕ) (ss : List Step) (s : Step) → slice_get ss at ≡ Some s → drop at ss ≡ s ∷ drop (at + 1) ss
drop_more at [] s e = absurd (cc)
drop_more zero (x ∷ ss) s e =
    let same : x ≡ s = cc in
    ap (λ (y : Step). y ∷ ss) same
drop_more (suc at) (x ∷ ss) s e =
    let further : suc (at + 1) ≡ suc at + 1 = omega arith in
    drop_more at ss s e ∙ ap (λ (n : ℕ). s ∷ drop n (x ∷ ss)) further

drop_none : (m : ℕ) → drop m no_steps ≡ no_steps
drop_none zero = refl
drop_none (suc m) = refl

drop_both : (m n : ℕ) (ss : List Step) → drop m (drop n ss) ≡ drop (n + m) ss
drop_both m zero ss =
    let same : m ≡ zero + m = omega arith in
    ap (λ (k : ℕ). drop k ss) same
drop_both m (suc n) [] = drop_none m ∙ sym (drop_none (suc n + m))
drop_both m (suc n) (s ∷ ss) =
    let further : suc (n + m) ≡ suc n + m = omega arith in
    drop_both m n ss ∙ ap (λ (k : ℕ). drop k (s ∷ ss)) further

pub walk_on : (r : Request) (ss : List Step) (at : ℕ) (s : Step) → Some s ≡ slice_get ss at → sources_from r zero (drop at ss) ≡ sources_at s ++ sources_from r zero (drop (at + 1 + passed_by r s) ss)
walk_on r ss at s e =
    ap (sources_from r zero) (drop_more at ss s (sym e)) ∙ step_parts r s (λ m. sources_from r m (drop (at + 1) ss))
    ∙ ap (λ (x : List (List Part)). sources_at s ++ x) (skipped r (passed_by r s) (drop (at + 1) ss) ∙ ap (sources_from r zero) (drop_both (passed_by r s) (at + 1) ss))

pub walked : (r : Request) (ss : List Step) (at : ℕ) → None ≡ slice_get ss at → sources_from r zero (drop at ss) ≡ []
walked r [] zero e = refl
walked r [] (suc at) e = refl
walked r (s ∷ ss) zero e = absurd (cc)
walked r (s ∷ ss) (suc at) e = walked r ss at e

-- an inline that is named is an entry
unless_same : (w : List ℕ) (t : Elements) (x : Option Elements) (y : Option Inline) (code : Inline → List Step) → option_map code_of x ≡ option_map code y → unless_entry w y ≡ unless_inline w x
unless_same w t None None code e = refl
unless_same w t None (Some i) code e = absurd (cc)
unless_same w t (Some c) None code e = absurd (cc)
unless_same w t (Some c) (Some i) code e = refl

module _ (r : Request) (a : Answered) (t : Elements) (template : processed a.reply ≡ true) (read : tree_of (body_of a.reply) ≡ Ok t) where
  entries_are : entries_of a ≡ entries t
  entries_are = rw (template, read) refl

  asked_same : (o : Option (List ℕ)) → asked_in a o ≡ asked_url a.url t o
  unfolding entry_for
  asked_same None = refl
  asked_same (Some w) =
      ap (λ (is : List Inline). unless_entry w (entry_among a.url w is)) entries_are
      ∙ unless_same w t (inline_for a.url w t) (entry_for a.url w t) _ (first_entry_counts a.url w t (templates_are_single (body_of a.reply) t read))

  all_same : (sources : List (List Part)) → filter_map (asked_by r a) sources ≡ filter_map (λ s. asked_url a.url t (resolve a.url (substituted r s))) sources
  all_same [] = refl
  all_same (s ∷ sources) = by (asked_url a.url t (resolve a.url (substituted r s))) refl (all_same sources)
    where
      by : (o : Option (List ℕ)) → asked_url a.url t (resolve a.url (substituted r s)) ≡ o
          → filter_map (asked_by r a) sources ≡ filter_map (λ s. asked_url a.url t (resolve a.url (substituted r s))) sources
          → filter_map (asked_by r a) (s ∷ sources) ≡ filter_map (λ s. asked_url a.url t (resolve a.url (substituted r s))) (s ∷ sources)
      by None e later = rw (asked_same (resolve a.url (substituted r s)), e) later
      by (Some w) e later = rw (asked_same (resolve a.url (substituted r s)), e) (ap (λ (l : List (List ℕ)). w ∷ l) later)

  ahead_same : ahead_of r a ≡ ahead r a.url t
  unfolding ahead_of
  ahead_same = rw (template, read) refl

  pub walk_is : (plan : Plan) → steps_in plan ≡ code_of t → filter_map (asked_by r a) (sources_from r zero (drop 0 (steps_in plan))) ≡ ahead_of r a
  unfolding ahead
  walk_is plan steps =
      ap (λ (ss : List Step). filter_map (asked_by r a) (sources_from r zero ss)) steps ∙ ap (filter_map (asked_by r a)) (plan_fetches_ahead r t) ∙ all_same (ahead_sources r t) ∙ sym ahead_same

pub walk_of_plan : (r : Request) (a : Answered) (plan : Plan) → (processed a.reply ≡ true) × IsPlanOf (body_of a.reply) plan → filter_map (asked_by r a) (sources_from r zero (drop 0 (steps_in plan))) ≡ ahead_of r a
walk_of_plan r a plan form = walk_is r a form.1.t form.0 form.1.read plan form.1.steps_are

-- an answer that isn't a template has nothing fetched ahead
pub nothing_ahead : (r : Request) (a : Answered) → processed a.reply ≡ false → ahead_of r a ≡ []
unfolding ahead_of
nothing_ahead r a plain = rw plain refl

-- nor has one that can't be read
pub bad_ahead : (r : Request) (a : Answered) (place : ℕ) → (processed a.reply ≡ true) × (tree_of (body_of a.reply) ≡ Err place) → ahead_of r a ≡ []
unfolding ahead_of
bad_ahead r a place bad = rw (bad.0, bad.1) refl

-- the loop: what is left to do is what is left of the plan
module _ (r : Request) (a : Answered) (depth : ℕ) (ss : List Step) where
  pub on : (at next : ℕ) (s : Step) (old new goal : Opening) → Some s ≡ slice_get ss at → next ≡ at + 1 + passed_by r s → new ≡ opened depth (filter_map (asked_by r a) (sources_at s)) old
      → opened depth (filter_map (asked_by r a) (sources_from r zero (drop at ss))) old ≡ goal
      → opened depth (filter_map (asked_by r a) (sources_from r zero (drop next ss))) new ≡ goal
  on at next s old new goal here far made before =
      let rest : List (List ℕ) = filter_map (asked_by r a) (sources_from r zero (drop (at + 1 + passed_by r s) ss)) in
      ap (λ (n : ℕ). opened depth (filter_map (asked_by r a) (sources_from r zero (drop n ss))) new) far ∙ ap (opened depth rest) made ∙ sym (opened-append depth (filter_map (asked_by r a) (sources_at s)) rest old)
      ∙ ap (λ (ws : List (List ℕ)). opened depth ws old) (sym (ap (filter_map (asked_by r a)) (walk_on r ss at s here) ∙ asked-append (asked_by r a) (sources_at s) (sources_from r zero (drop (at + 1 + passed_by r s) ss))))
      ∙ before

  pub at_end : (at : ℕ) (now goal : Opening) → None ≡ slice_get ss at → opened depth (filter_map (asked_by r a) (sources_from r zero (drop at ss))) now ≡ goal → now ≡ goal
  at_end at now goal none before = ap (λ (x : List (List Part)). opened depth (filter_map (asked_by r a) x) now) (sym (walked r ss at none)) ∙ before

  pub when_full : (at : ℕ) (b : State) (left : ℕ) (goal : Opening) → left ≡ 0 → opened depth (filter_map (asked_by r a) (sources_from r zero (drop at ss))) (record { board = b; room = left }) ≡ goal → record { board = b; room = left } ≡ goal
  when_full at b left goal none before =
      let ws : List (List ℕ) = filter_map (asked_by r a) (sources_from r zero (drop at ss)) in
      ap (λ (n : ℕ). record { board = b; room = n }) none ∙ sym (full depth ws b) ∙ ap (λ (n : ℕ). opened depth ws (record { board = b; room = n })) (sym none) ∙ before

-- no step that the walk stands on passes the end
pub passes : (r : Request) (s : Step) → passed_by r s ≤ skip_of s
passes r (Text text) = omega arith
passes r (Values parts) = omega arith
passes r (Test test skip) = either (holds r test)
  where
    either : (b : Bool) → (if b then 0 else skip) ≤ skip
    either true = omega arith
    either false = omega arith
passes r (Jump skip) = omega arith
passes r (Try skip) = omega arith
passes r (EndTry skip) = omega arith
passes r (Leg source) = omega arith

pub keeps_on : (a b c : State) → KeepsFilled a b → KeepsFilled b c → KeepsFilled a c
keeps_on a b c ab bc n s here filled = bc n s (ab n s here filled) filled

pub stays_within : (r : Request) (text : List ℕ) (plan : Plan) (at : ℕ) (s : Step) → IsPlanOf text plan → Some s ≡ slice_get (steps_in plan) at → at + 1 + passed_by r s ≤ length (steps_in plan)
stays_within r text plan at s p here = omega (arith, short_step text plan at s (length (steps_in plan)) (length (steps_in plan)) p here refl (omega arith), passes r s)
