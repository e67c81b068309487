use Rattle.std.proofs.Common.{◌≡◌, map, ◌∷◌, sym, ap, subst, ◌∙◌}
use Rattle.std.specs.Option.{option_copied}
use Rattle.std.specs.Str.Iter.{HasSubslice}
use Rattle.edge_types.specs.Blanks.{trimmed}
use Rattle.esi_vars.specs.Field.{named, parts_between}
use Rattle.esi_vars.specs.Finds.{BeginsPart}
use Rattle.esi_vars.specs.Shown.{parts_left}
use Rattle.esi_vars.proofs.FieldLemmas.{named_found, named_later, named_none, cookie_starts}
use Rattle.esi_vars.proofs.SearchLemmas.{cookie_passed, no_cookie}
use Rattle.esi_vars.proofs.cookie.cookie_value.Goals as goal
use Rattle.esi_vars.proofs.cookie.cookie_value.Goals.{in-Some+in_default-from_name, in_default}

pub loop-rest-init : goal.loop-rest-init
loop-rest-init c = cookie_starts _ _

pub returns-then-eq : goal.returns-then-eq
returns-then-eq c =
    let name = c.args.name.now in
    let left = c.in-Some-from_name.text.now in
    let begins = subst (λ w. BeginsPart 59 (λ front. ¬ HasSubslice front w) c.in-Some.text.now left) c.new-finder.ensures c.in-Some-from_name.ensures in
    let all : map trimmed (parts_between 59 left) ≡ c.trimmed.result.now ∷ map trimmed (parts_left 59 (option_copied c.first_part.result.1)) = ap (map trimmed) (sym c.first_part.ensures.value) ∙ ap (λ t. t ∷ map trimmed (parts_left 59 (option_copied c.first_part.result.1))) (sym c.trimmed.ensures) in
    c.behind.ensures ∙ named_found name _ _ _ _ _ all c.halves.ensures (sym c.eq.ensures ∙ c.if-eq.true)
    ∙ sym (cookie_passed name c.in-Some.text.now left begins)
    ∙ ap (λ o. named name (map trimmed (parts_left 59 (option_copied o)))) (sym c.in-Some.is) ∙ c.loop-rest.invariant

pub loop-rest-preserved : goal.loop-rest-preserved
loop-rest-preserved c =
    let name = c.args.name.now in
    let left = c.in-Some-from_name.text.now in
    let begins = subst (λ w. BeginsPart 59 (λ front. ¬ HasSubslice front w) c.in-Some.text.now left) c.new-finder.ensures c.in-Some-from_name.ensures in
    let all : map trimmed (parts_between 59 left) ≡ c.trimmed.result.now ∷ map trimmed (parts_left 59 (option_copied c.first_part.result.1)) = ap (map trimmed) (sym c.first_part.ensures.value) ∙ ap (λ t. t ∷ map trimmed (parts_left 59 (option_copied c.first_part.result.1))) (sym c.trimmed.ensures) in
    sym (named_later name _ _ _ _ _ all c.halves.ensures (sym c.eq.ensures ∙ c.if-eq.false))
    ∙ sym (cookie_passed name c.in-Some.text.now left begins)
    ∙ ap (λ o. named name (map trimmed (parts_left 59 (option_copied o)))) (sym c.in-Some.is) ∙ c.loop-rest.invariant

pub returns : goal.returns
returns c =
    let name = c.args.name.now in
    elim c.match-rest.branch [
      | in-Some+in_default-from_name w ↦
          let lacks = subst (λ n. HasSubslice w.in-Some.text.now n → ⊥) c.new-finder.ensures w.in_default-from_name.ensures in
          sym (no_cookie name w.in-Some.text.now lacks) ∙ ap (λ o. named name (map trimmed (parts_left 59 (option_copied o)))) (sym w.in-Some.is) ∙ c.loop-rest.invariant
      | in_default w ↦
          sym (named_none name) ∙ ap (λ o. named name (map trimmed (parts_left 59 (option_copied o)))) (sym w.in_default.is) ∙ c.loop-rest.invariant
    ]
