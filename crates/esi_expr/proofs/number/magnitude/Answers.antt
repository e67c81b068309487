use Rattle.std.proofs.Common.{arith}
use Rattle.esi_expr.proofs.NumberLemmas.{few_digits, digit_at, value_more, pow_few, pow_all, fits_more, less_more}
use Rattle.esi_expr.proofs.number.magnitude.Goals as goal

pub overflow_mul-magnitude : goal.overflow_mul-magnitude
overflow_mul-magnitude c =
    let few = few_digits c.args.digits.now c.requires in
    let small = fits_more c.loop-digit.magnitude 0 _ c.loop-digit.invariant.small (pow_few c.loop-digit.digit-index (omega arith)) (omega arith) in
    omega (arith, small)

pub overflow_add-magnitude : goal.overflow_add-magnitude
overflow_add-magnitude c =
    let few = few_digits c.args.digits.now c.requires in
    let digit = digit_at c.args.digits.now c.requires c.loop-digit.digit-index 0 c.loop-digit-test.true in
    let small = fits_more c.loop-digit.magnitude c.from.result _ c.loop-digit.invariant.small (pow_few c.loop-digit.digit-index (omega arith)) (omega (arith, c.from.ensures, digit.0, digit.1)) in
    omega (arith, small)

pub loop-digit-preserved : goal.loop-digit-preserved
loop-digit-preserved c =
    let digit = digit_at c.args.digits.now c.requires c.loop-digit.digit-index 0 c.loop-digit-test.true in
    record {
      value = value_more c.args.digits.now c.loop-digit.digit-index c.loop-digit.magnitude c.from.result c.loop-digit-test.true c.requires c.loop-digit.invariant.value c.from.ensures;
      small = less_more c.loop-digit.magnitude c.from.result c.loop-digit.digit-index c.loop-digit.invariant.small (omega (arith, c.from.ensures, digit.0, digit.1));
    }

pub returns-clause-small : goal.returns-clause-small
returns-clause-small c =
    let few = few_digits c.args.digits.now c.requires in
    let end = pow_all c.loop-digit.digit-index (omega arith) in
    omega (arith, end, c.loop-digit.invariant.small)
