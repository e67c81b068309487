-- The first entry of a URL is the inline that counts for it.
use Rattle.std.proofs.Common.{◌≡◌, ℕ, ◌-◌, Bool, true, false, cond, List, [], ◌∷◌, length, map, take, drop, find, Option, Some, None, refl, sym, ◌∙◌, ap}
use Rattle.std.specs.Option.{option_map}
use Rattle.esi_meaning.specs.Inlines.{names, NamedBody, inlines}
use Rattle.esi_meaning.proofs.InlineLemmas.{first_inline_counts}
use Rattle.plan_compiler.specs.declared.inline.Inline.{Inline}
use Rattle.plan_compiler.specs.Plan.{Step}
use Rattle.plan_compiler.specs.Code.{code_of}
use Rattle.plan_compiler.specs.Bodies.{Body, body_in, body_of, inline_at, places_of, entries}
use Rattle.plan_compiler.specs.Urls.{entry_for}
use Rattle.plan_compiler.specs.Laws.{FirstEntryCounts}
use Rattle.plan_compiler.proofs.Bodies.{bodies_stand}

abbrev content_code : NamedBody → List Step
content_code b = code_of b.content

module _ (u w : List ℕ) (steps : List Step) where
  abbrev entry_code : Inline → List Step
  entry_code i = take (i.end - i.first) (drop i.first steps)

  abbrev naming : NamedBody → Bool
  naming b = names u w b.name

  abbrev entry_naming : Inline → Bool
  entry_naming i = names u w i.name

  first_if : (i : Inline) (b : NamedBody) (is : List Inline) (bs : List NamedBody) → content_code b ≡ entry_code i
      → option_map content_code (find naming bs) ≡ option_map entry_code (find entry_naming is)
      → (here : Bool) → option_map content_code (cond here (Some b) (find naming bs)) ≡ option_map entry_code (cond here (Some i) (find entry_naming is))
  first_if i b is bs same later true = ap Some same
  first_if i b is bs same later false = later

  first_same : (is : List Inline) (bs : List NamedBody) → map (body_in steps) is ≡ map body_of bs → option_map content_code (find naming bs) ≡ option_map entry_code (find entry_naming is)
  first_same [] [] e = refl
  first_same [] (b ∷ bs) e = absurd (cc)
  first_same (i ∷ is) [] e = absurd (cc)
  first_same (i ∷ is) (b ∷ bs) e =
      let here : body_in steps i ≡ body_of b = cc in
      let later : map (body_in steps) is ≡ map body_of bs = cc in
      let name : i.name ≡ b.name = ap (λ (x : Body). x.name) here in
      let code : content_code b ≡ entry_code i = sym (ap (λ (x : Body). x.steps) here) in
      ap (λ (n : List ℕ). option_map content_code (cond (names u w n) (Some b) (find naming bs))) (sym name)
      ∙ first_if i b is bs code (first_same is bs later) (names u w i.name)

pub first_entry_counts : FirstEntryCounts
unfolding entries entry_for
first_entry_counts u w t single =
    ap (option_map code_of) (first_inline_counts u w t)
    ∙ twice (find (λ (b : NamedBody). names u w b.name) (inlines t))
    ∙ first_same u w (code_of t) (map (inline_at (length (code_of t))) (places_of t [])) (inlines t) (bodies_stand t single)
  where
    twice : (o : Option NamedBody) → option_map code_of (option_map (λ (b : NamedBody). b.content) o) ≡ option_map content_code o
    twice None = refl
    twice (Some b) = refl
