use Rattle.std.proofs.Common.{sym, ap, ◌∙◌}
use Rattle.std.specs.Option.{option_copied}
use Rattle.std.specs.List.{list_any}
use Rattle.esi_vars.specs.Field.{names_language}
use Rattle.esi_vars.specs.Shown.{parts_left}
use Rattle.esi_vars.proofs.FieldLemmas.{language_found, language_none}
use Rattle.esi_vars.proofs.LetterLemmas.{other_part, language_passed, no_language}
use Rattle.esi_vars.proofs.language.language_value.Goals as goal
use Rattle.esi_vars.proofs.language.language_value.Goals.{in-Some+in_default-from_first_letter, in_default}

pub returns-then-names_language : goal.returns-then-names_language
returns-then-names_language c =
    let language = c.args.language.now in
    language_found language c.first_part.result.0.now c.args.field.now _ _ (sym c.first_part.ensures.value) (sym c.names_language.ensures ∙ c.if-names_language.true)
    (sym (language_passed language c.in-Some.text.now _ c.in-Some-from_first_letter.ensures) ∙ ap (λ o. list_any (names_language language) (parts_left 44 (option_copied o))) (sym c.in-Some.is) ∙ c.loop-rest.invariant)

pub loop-rest-preserved : goal.loop-rest-preserved
loop-rest-preserved c =
    let language = c.args.language.now in
    sym (other_part language _ _ _ (sym c.first_part.ensures.value) (sym c.names_language.ensures ∙ c.if-names_language.false))
    ∙ sym (language_passed language c.in-Some.text.now _ c.in-Some-from_first_letter.ensures)
    ∙ ap (λ o. list_any (names_language language) (parts_left 44 (option_copied o))) (sym c.in-Some.is) ∙ c.loop-rest.invariant

pub returns : goal.returns
returns c =
    let language = c.args.language.now in
    elim c.match-rest.branch [
      | in-Some+in_default-from_first_letter w ↦
          language_none language c.args.field.now
          (sym (no_language language w.in-Some.text.now w.in_default-from_first_letter.ensures) ∙ ap (λ o. list_any (names_language language) (parts_left 44 (option_copied o))) (sym w.in-Some.is) ∙ c.loop-rest.invariant)
      | in_default w ↦
          language_none language c.args.field.now (ap (λ o. list_any (names_language language) (parts_left 44 (option_copied o))) (sym w.in_default.is) ∙ c.loop-rest.invariant)
    ]
