use Rattle.std.proofs.Common.{sym, ◌∙◌}
use Rattle.edge_case.proofs.Numbers.{too_long, zero_first, plain_number}
use Rattle.edge_case.proofs.number.number_of.Goals as goal
use Rattle.edge_case.proofs.number.number_of.Goals.{then-text-gt-MAX_DIGITS-via-then-text-gt-MAX_DIGITS, then-text-gt-MAX_DIGITS-via-else-text-gt-MAX_DIGITS+then-has_needless_zero}

pub returns-then-text-gt-MAX_DIGITS : goal.returns-then-text-gt-MAX_DIGITS
returns-then-text-gt-MAX_DIGITS c =
    elim c.then-text-gt-MAX_DIGITS.branch [
      | then-text-gt-MAX_DIGITS-via-then-text-gt-MAX_DIGITS w ↦ sym (too_long c.args.text.now w.if-text-gt-MAX_DIGITS.true)
      | then-text-gt-MAX_DIGITS-via-else-text-gt-MAX_DIGITS+then-has_needless_zero w ↦ sym (zero_first c.args.text.now (sym w.if-has_needless_zero.ensures))
    ]

pub returns : goal.returns
returns c = c.in_ok-number.ensures.reading ∙ plain_number c.args.text.now c.if-text-gt-MAX_DIGITS.false (sym c.if-has_needless_zero.ensures)

pub returns-in_err-number : goal.returns-in_err-number
returns-in_err-number c = c.from_residual.ensures ∙ c.in_err-number.ensures.reading ∙ plain_number c.args.text.now c.if-text-gt-MAX_DIGITS.false (sym c.if-has_needless_zero.ensures)
