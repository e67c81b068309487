use Rattle.std.proofs.Common.{◌≡◌, false, drop, sym, ◌∙◌, ap, arith}
use Rattle.esi_scanner.specs.Scan.{begins_opener}
use Rattle.esi_scanner.proofs.Places.{before-past, before-more}
use Rattle.esi_scanner.proofs.opener.text_len.Goals as goal

pub loop-len-init : goal.loop-len-init
loop-len-init c =
    record { within = c.plain_len-len.ensures.within; passed = before-past (begins_opener c.args.block) c.args.text.now c.plain_len-len.result c.plain_len-len.ensures.within c.plain_len-len.ensures.plain }

pub loop-len-preserved : goal.loop-len-preserved
loop-len-preserved c =
    let text = c.args.text.now in
    let test = begins_opener c.args.block in
    let rest : c.split_at-in-loop-len.result.1.now ≡ drop 1 (drop c.loop-len.len text) = c.split_at-in-loop-len.ensures.back ∙ ap (drop 1) c.split_at.ensures.back in
    let none : test (drop c.loop-len.len text) ≡ false = ap test (sym c.split_at.ensures.back) ∙ sym c.begins_opener.ensures ∙ c.if-begins_opener.false in
    let fits = rw rest at c.plain_len.ensures.within in
    let plain = rw rest at c.plain_len.ensures.plain in
    record {
      within = omega (arith, c.plain_len.ensures.within, c.split_at.ensures.back_len, c.split_at-in-loop-len.ensures.back_len);
      passed = before-more test text c.loop-len.len c.plain_len.result c.loop-len-test.true none fits plain c.loop-len.invariant.passed;
    }
