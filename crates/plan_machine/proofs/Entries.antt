-- The inline that a URL names comes to the same as its steps.
use Rattle.std.proofs.Common.{◌≡◌, ℕ, zero, suc, ◌-◌, ◌≤◌, Bool, true, false, cond, List, [], ◌∷◌, length, map, take, drop, find, Option, Some, None, refl, sym, ◌∙◌, ap, arith}
use Rattle.std.specs.Option.{option_map}
use Rattle.edge_types.specs.declared.request.Request.{Request}
use Rattle.esi_vars.specs.declared.part.Part.{Part}
use Rattle.esi_tree.specs.Tree.{Elements}
use Rattle.esi_meaning.specs.Inlines.{names, inline_for, NamedBody, inlines}
use Rattle.esi_meaning.specs.Meaning.{elements_run}
use Rattle.esi_meaning.specs.Run.{Run}
use Rattle.esi_meaning.proofs.InlineLemmas.{first_inline_counts}
use Rattle.plan_compiler.specs.declared.inline.Inline.{Inline}
use Rattle.plan_compiler.specs.Plan.{Step}
use Rattle.plan_compiler.specs.Code.{code_of}
use Rattle.plan_compiler.specs.Machine.{flow, frame_run}
use Rattle.plan_compiler.specs.Bodies.{Body, IsSingle, body_in, body_of, inline_at, places_of, entries}
use Rattle.plan_compiler.proofs.Flow.{plan_means_the_tree}
use Rattle.plan_compiler.proofs.Bodies.{bodies_stand}
use Rattle.plan_compiler.specs.Urls.{entry_for}

abbrev no_steps : List Step
no_steps = []

take_nothing : (n : ℕ) → take n no_steps ≡ no_steps
take_nothing zero = refl
take_nothing (suc n) = refl

drop_take : (i j : ℕ) (ss : List Step) → drop i (take j ss) ≡ take (j - i) (drop i ss)
drop_take zero j ss =
    let e : j ≡ j - zero = omega arith in
    ap (λ (n : ℕ). take n ss) e
drop_take (suc i) zero ss =
    let e : zero ≡ zero - suc i = omega arith in
    ap (λ (n : ℕ). take n (drop (suc i) ss)) e
drop_take (suc i) (suc j) [] = sym (take_nothing (suc j - suc i))
drop_take (suc i) (suc j) (s ∷ ss) =
    let e : j - i ≡ suc j - suc i = omega arith in
    drop_take i j ss ∙ ap (λ (n : ℕ). take n (drop i ss)) e

module _ (r : Request) (leg : List Part → Run) where
  -- what an inline comes to by its steps, among these
  abbrev pub entry_run : List Step → Inline → Run
  entry_run steps i = flow r leg zero (drop i.first (take i.end steps)) [] []

  abbrev content_run : NamedBody → Run
  content_run b = elements_run r leg b.content

  same_run : (steps : List Step) (i : Inline) (b : NamedBody) → body_in steps i ≡ body_of b → content_run b ≡ entry_run steps i
  same_run steps i b e =
      sym (plan_means_the_tree r leg b.content) ∙ ap (λ (x : Body). frame_run r leg x.steps) (sym e) ∙ ap (λ (ss : List Step). flow r leg zero ss [] []) (sym (drop_take i.first i.end steps))

  module _ (u w : List ℕ) (steps : List Step) where
    abbrev naming : NamedBody → Bool
    naming b = names u w b.name

    abbrev entry_naming : Inline → Bool
    entry_naming i = names u w i.name

    first_if : (i : Inline) (b : NamedBody) (is : List Inline) (bs : List NamedBody) → content_run b ≡ entry_run steps i → option_map content_run (find naming bs) ≡ option_map (entry_run steps) (find entry_naming is)
        → (here : Bool) → option_map content_run (cond here (Some b) (find naming bs)) ≡ option_map (entry_run steps) (cond here (Some i) (find entry_naming is))
    first_if i b is bs same later true = ap Some same
    first_if i b is bs same later false = later

    first_same : (is : List Inline) (bs : List NamedBody) → map (body_in steps) is ≡ map body_of bs → option_map content_run (find naming bs) ≡ option_map (entry_run steps) (find entry_naming is)
    first_same [] [] e = refl
    first_same [] (b ∷ bs) e = absurd (cc)
    first_same (i ∷ is) [] e = absurd (cc)
    first_same (i ∷ is) (b ∷ bs) e =
        let here : body_in steps i ≡ body_of b = cc in
        let later : map (body_in steps) is ≡ map body_of bs = cc in
        let name : i.name ≡ b.name = ap (λ (x : Body). x.name) here in
        ap (λ (n : List ℕ). option_map content_run (cond (names u w n) (Some b) (find naming bs))) (sym name)
        ∙ first_if i b is bs (same_run steps i b here) (first_same is bs later) (names u w i.name)

  pub entry_means : (u w : List ℕ) (t : Elements) → IsSingle t
      → option_map (λ (c : Elements). elements_run r leg c) (inline_for u w t) ≡ option_map (λ (i : Inline). flow r leg zero (drop i.first (take i.end (code_of t))) [] []) (entry_for u w t)
  unfolding entries entry_for
  entry_means u w t single =
      ap (option_map (λ (c : Elements). elements_run r leg c)) (first_inline_counts u w t)
      ∙ twice (find (λ (b : NamedBody). names u w b.name) (inlines t))
      ∙ first_same u w (code_of t) (map (inline_at (length (code_of t))) (places_of t [])) (inlines t) (bodies_stand t single)
    where
      twice : (o : Option NamedBody) → option_map (λ (c : Elements). elements_run r leg c) (option_map (λ (b : NamedBody). b.content) o) ≡ option_map content_run o
      twice None = refl
      twice (Some b) = refl

-- an inline ends within the steps
within_if : (total : ℕ) (x : Inline) (o : Option Inline) → x.end ≤ total → ((i : Inline) → o ≡ Some i → i.end ≤ total) → (here : Bool) (i : Inline) → cond here (Some x) o ≡ Some i → i.end ≤ total
within_if total x o le later true i e =
    let same : x ≡ i = cc in
    omega (arith, le, ap (λ (y : Inline). y.end) same)
within_if total x o le later false i e = later i e

within_among : {P : Type 0} (named : Inline → Bool) (total : ℕ) (f : P → Inline) → ((p : P) → (f p).end ≤ total) → (ps : List P) (i : Inline) → find named (map f ps) ≡ Some i → i.end ≤ total
within_among named total f le [] i e = absurd (cc)
within_among named total f le (p ∷ ps) i e = within_if total (f p) (find named (map f ps)) (le p) (within_among named total f le ps) (named (f p)) i e

pub entry_within : (u w : List ℕ) (t : Elements) (i : Inline) → entry_for u w t ≡ Some i → i.end ≤ length (code_of t)
unfolding entries entry_for
entry_within u w t i e = within_among (λ (x : Inline). names u w x.name) (length (code_of t)) (inline_at (length (code_of t))) (λ p. omega arith) (places_of t []) i e
