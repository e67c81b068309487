-- An outcome rests on what was asked for it.
use Rattle.std.proofs.Common.{◌≡◌, ◌⊎◌, ℕ, zero, suc, ◌<◌, ◌≤◌, Bool, true, false, List, [], ◌∷◌, length, take, Result, Ok, Err, refl, sym, ◌∙◌, ap, inl, inr, arith, nat_lt, lt-ltb, if◌then◌else◌}
use Rattle.std.proofs.lemmas.List.{length-take, take-take}
use Rattle.std.specs.List.{AllByRecursion}
use Rattle.edge_types.specs.declared.head.Head.{Head}
use Rattle.edge_types.specs.declared.request.Request.{Request}
use Rattle.edge_types.specs.declared.answer.Reply.{Reply}
use Rattle.edge_types.specs.declared.answer.Reply.TheVariants.{Failed, Got}
use Rattle.edge_types.specs.Answered.{Answered, processed}
use Rattle.edge_types.specs.Outcome.{Shown, Page}
use Rattle.edge_types.specs.Table.{reply_of}
use Rattle.esi_tree.specs.Reading.{tree_of}
use Rattle.esi_tree.specs.Tree.{Elements}
use Rattle.esi_meaning.specs.Laws.{SameReply, OutcomeRestsOnAsked}
use Rattle.esi_meaning.specs.Meaning.{page_run, urls, most_legs, run_outcome, tree_legs, reply_legs, tree_outcome, reply_outcome, outcome, asked}
use Rattle.esi_meaning.specs.Run.{Leg, Asks, AsksNobody, Run}
use Rattle.esi_meaning.proofs.NearRuns.{Alike, Close, Near, le_or_lt}
use Rattle.esi_meaning.proofs.NearMeanings.{near-page}

alike_from-urls : (S T : List Answered) (k : ℕ) (legs : List Leg) → AllByRecursion (SameReply S T) (urls (take k legs)) → Alike S T k legs
unfolding Alike
alike_from-urls S T zero legs all = tt
alike_from-urls S T (suc k) [] all = tt
alike_from-urls S T (suc k) (AsksNobody ∷ legs) all = (tt, alike_from-urls S T k legs all)
alike_from-urls S T (suc k) (Asks n w ∷ legs) all = (all.0, alike_from-urls S T k legs all.1)

take_less : (k : ℕ) (xs ys : List Leg) → take (suc k) xs ≡ take (suc k) ys → take k xs ≡ take k ys
take_less k xs ys e =
    let less : k ≤ suc k = omega arith in
    sym (take-take k (suc k) xs less) ∙ ap (take k) e ∙ take-take k (suc k) ys less

also_long : (k : ℕ) (xs ys : List Leg) → take (suc k) xs ≡ take (suc k) ys → k < length xs → k < length ys
also_long k xs ys e long = omega (arith, ap length e, length-take (suc k) xs, length-take (suc k) ys)

same_outcome : (k : ℕ) (head : Head) (a b : Run) → Close k a b → (length a.legs ≤ k) ⊎ (k < length a.legs)
    → run_outcome k head a ≡ run_outcome k head b
same_outcome k head a b c (inl short) = ap (run_outcome k head) (c.whole short)
same_outcome k head a b c (inr long) =
    let long' = also_long k a.legs b.legs c.ahead long in
    let is_long : nat_lt k (length a.legs) ≡ true = lt-ltb k (length a.legs) long in
    let is_long' : nat_lt k (length b.legs) ≡ true = lt-ltb k (length b.legs) long' in
    rw (is_long, is_long') refl

-- the same legs are asked, with one outcome
abbrev Settles : ℕ → List Leg → List Leg → Shown → Shown → Type 0
Settles k a b x y = (urls (take k a) ≡ urls (take k b)) × (x ≡ y)

pub settled : (S T : List Answered) (k : ℕ) (head : Head) (a b : Run) → Near S T a b → AllByRecursion (SameReply S T) (urls (take k a.legs))
    → Settles k a.legs b.legs (run_outcome k head a) (run_outcome k head b)
settled S T k head a b n all =
    let c = n.at k (alike_from-urls S T k a.legs all) in
    (ap urls (take_less k a.legs b.legs c.ahead), same_outcome k head a b c (le_or_lt (length a.legs) k))

module _ (r : Request) (S T : List Answered) (L : ℕ) (u : List ℕ) where
  settled_tree : (head : Head) (read : Result Elements ℕ) → AllByRecursion (SameReply S T) (urls (take most_legs (tree_legs r S L u read)))
      → Settles most_legs (tree_legs r S L u read) (tree_legs r T L u read) (tree_outcome r S L u head read) (tree_outcome r T L u head read)
  settled_tree head (Ok t) all =
      settled S T most_legs head (page_run r S L u t) (page_run r T L u t) (near-page S T r L u t) all
  settled_tree head (Err place) all = (refl, refl)

  settled_if : (b : Bool) (head : Head) (body : List ℕ) → AllByRecursion (SameReply S T) (urls (take most_legs (if b then tree_legs r S L u (tree_of body) else [])))
      → Settles most_legs (if b then tree_legs r S L u (tree_of body) else []) (if b then tree_legs r T L u (tree_of body) else [])
      (if b then tree_outcome r S L u head (tree_of body) else Page head body)
      (if b then tree_outcome r T L u head (tree_of body) else Page head body)
  settled_if true head body all = settled_tree head (tree_of body) all
  settled_if false head body all = (refl, refl)

  settled_reply : (reply : Reply) → AllByRecursion (SameReply S T) (urls (take most_legs (reply_legs r S L u reply)))
      → Settles most_legs (reply_legs r S L u reply) (reply_legs r T L u reply) (reply_outcome r S L u reply) (reply_outcome r T L u reply)
  settled_reply Failed all = (refl, refl)
  settled_reply (Got head control body) all = settled_if (processed (Got head control body)) head body all

pub rests_on_asked : OutcomeRestsOnAsked
unfolding asked outcome
rests_on_asked r S T L u all =
    let same : reply_of S u ≡ reply_of T u = all.0 in
    let both = settled_reply r S T L u (reply_of S u) all.1 in
    rw (← same) (ap (λ (ws : List (List ℕ)). u ∷ ws) both.0, both.1)
