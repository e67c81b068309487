use Rattle.std.proofs.Common.{◌∙◌, Some, true, false, w64, sym, ap, arith}
use Rattle.std.proofs.lemmas.Int.{to_z_pos}
use Rattle.std.proofs.Math.IntN.{ℤ}
use Rattle.esi_expr.proofs.IntLemmas.{number_is, negated}
use Rattle.esi_expr.proofs.number.number_of.Goals as goal

pub returns-then-is_negative : goal.returns-then-is_negative
returns-then-is_negative c =
    let are = sym c.are_digits.ensures ∙ c.if-not-are_digits.false in
    let found = number_is c.args.text.now c.after_minus-digits.result.now c.magnitude-magnitude.result true c.after_minus-digits.ensures are c.magnitude-magnitude.ensures.value (sym c.is_negative.ensures ∙ c.if-is_negative.true) in
    ap (λ (z : ℤ). Some z) (negated c.magnitude-magnitude.result c.magnitude-magnitude.ensures.small) ∙ found

pub returns-else-is_negative : goal.returns-else-is_negative
returns-else-is_negative c =
    let are = sym c.are_digits.ensures ∙ c.if-not-are_digits.false in
    let found = number_is c.args.text.now c.after_minus-digits.result.now c.magnitude-magnitude.result false c.after_minus-digits.ensures are c.magnitude-magnitude.ensures.value (sym c.is_negative.ensures ∙ c.if-is_negative.false) in
    ap (λ (z : ℤ). Some z) (to_z_pos w64 c.magnitude-magnitude.result (omega (arith, c.magnitude-magnitude.ensures.small))) ∙ found
