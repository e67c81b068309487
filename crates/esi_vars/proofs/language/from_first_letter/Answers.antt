use Rattle.std.proofs.Common.{MatchOption, sym, subst}
use Rattle.esi_vars.specs.Finds.{BeginsPart, HasFirstLetter}
use Rattle.esi_vars.proofs.LetterLemmas.{letter_nowhere, letter_behind}
use Rattle.esi_vars.proofs.language.from_first_letter.Goals as goal

pub returns-in_err-place : goal.returns-in_err-place
returns-in_err-place c =
    let language = c.args.language.now in
    let lacks = letter_nowhere language c.to_ascii_lowercase.result c.to_ascii_uppercase.result c.to_ascii_lowercase.ensures.value c.to_ascii_uppercase.ensures.value c.in-len1-up.len_at_least c.args.text.now c.in_err-place.ensures in
    subst (λ r. MatchOption r (¬ HasFirstLetter language c.args.text.now) (λ rest. BeginsPart 44 (λ front. ¬ HasFirstLetter language front) c.args.text.now rest.now)) (sym c.from_residual.ensures) lacks

pub returns : goal.returns
returns c =
    letter_behind c.args.language.now c.to_ascii_lowercase.result c.to_ascii_uppercase.result c.to_ascii_lowercase.ensures.value c.to_ascii_uppercase.ensures.value c.in-len1-up.len_at_least
    44 c.in_ok-place.place c.args.text.now c.from_part.result.now c.in_ok-place.ensures.0.before c.from_part.ensures
