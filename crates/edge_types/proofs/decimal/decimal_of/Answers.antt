use Rattle.std.proofs.Common.{◌≡◌, ◌+◌, ◌*◌, min, true, get_or, sym, ◌∙◌, arith}
use Rattle.std.specs.Char.{is_ascii_digit, digit_value}
use Rattle.std.proofs.lemmas.Bool.{and_from}
use Rattle.std.proofs.lemmas.Bool.Decides.{nat_tests}
use Rattle.std.proofs.lemmas.Int.Digits.{digits_value_more}
use Rattle.std.proofs.lemmas.List.Folds.{list_all_more}
use Rattle.edge_types.proofs.DecimalLemmas.{capped}
use Rattle.edge_types.proofs.decimal.decimal_of.Goals as goal

pub loop-digit-preserved : goal.loop-digit-preserved
loop-digit-preserved c =
    let text = c.args.text.now in
    let i = c.loop-digit.digit-index in
    let above = c.args.most + 1 in
    let digit : digit_value (get_or text i 0) ≡ c.from.result = grind (arith, nat_tests) in
    let passes : is_ascii_digit (get_or text i 0) ≡ true = sym c.if-not-is_ascii_digit.ensures.value in
    let next : c.min-total.result ≡ min (c.loop-digit.total * 10 + c.from.result) above = omega (arith, c.min-total.ensures, c.from-above.ensures) in
    record {
      total = rw (next, digits_value_more 10 text i c.loop-digit-test.true, c.loop-digit.invariant.total, digit) (capped _ _ _);
      digits = list_all_more is_ascii_digit text i 0 c.loop-digit-test.true ∙ and_from _ _ c.loop-digit.invariant.digits passes;
    }
