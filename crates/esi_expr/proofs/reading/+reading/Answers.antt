use Rattle.std.proofs.Common.{sym, arith}
use Rattle.esi_expr.specs.Shown.{test_of, conj_of, neg_of}
use Rattle.esi_expr.specs.Tree.{And, Or}
use Rattle.esi_expr.specs.Reading.{conj_with, neg_at}
use Rattle.esi_expr.proofs.ReadingLemmas.{sign_shorter, underway_push, underway_fail, underway_end, conj_begun, test_begun, conj_stops, test_stops, handed_on}
use Rattle.esi_expr.proofs.Sound.{neg_shorter, conj_shorter}
use Rattle.esi_expr.proofs.reading.+reading.Goals as goal

pub conjunction_at-returns-in_err-first : goal.conjunction_at-returns-in_err-first
conjunction_at-returns-in_err-first t c =
    handed_on conj_of c.from_residual.result c.in_err-first.field-0.0 _ c.from_residual.ensures.1 (conj_stops (neg_at c.args.nesting) c.args.text.now _ c.in_err-first.ensures)

pub conjunction_at-loop-behind-init : goal.conjunction_at-loop-behind-init
conjunction_at-loop-behind-init t c =
    rw c.new-more.ensures.items (conj_begun (neg_at c.args.nesting) c.args.text.now c.in_ok-first.rest.now (neg_of c.in_ok-first.first) c.in_ok-first.ensures)

pub conjunction_at-returns-in_err-next : goal.conjunction_at-returns-in_err-next
conjunction_at-returns-in_err-next t c =
    handed_on conj_of c.from_residual-in_err-next.result c.in_err-next.field-0.0 _ c.from_residual-in_err-next.ensures.1
    (underway_fail And 38 (neg_at c.args.nesting) _ _ _ _ _ c.loop-behind.invariant (sym c.in-Some.ensures) c.in_err-next.ensures)

pub conjunction_at-loop-behind-smaller : goal.conjunction_at-loop-behind-smaller
conjunction_at-loop-behind-smaller t c =
    let behind = sign_shorter 38 _ _ (sym c.in-Some.ensures) in
    let after = neg_shorter c.args.nesting _ _ _ c.in_ok-next.ensures in
    omega (arith, behind, after)

pub conjunction_at-loop-behind-preserved : goal.conjunction_at-loop-behind-preserved
conjunction_at-loop-behind-preserved t c =
    let read = c.in_ok-next.ensures in
    underway_push And neg_of _ 38 (neg_at c.args.nesting) c.loop-behind.more.items c.in_ok-next.next c.push.new.self.items c.loop-behind.rest.now c.in-Some.behind.now c.in_ok-next.after.now _ c.in_ok-push.ensures.items c.loop-behind.invariant (sym c.in-Some.ensures) read (neg_shorter c.args.nesting _ _ _ read)

pub conjunction_at-returns : goal.conjunction_at-returns
conjunction_at-returns t c =
    rw c.of.ensures (underway_end And 38 (neg_at c.args.nesting) _ _ _ c.loop-behind.invariant (sym (rw c.in_default.is at c.after_sign.ensures)))

pub test_at-returns-in_err-first : goal.test_at-returns-in_err-first
test_at-returns-in_err-first t c =
    handed_on test_of c.from_residual.result c.in_err-first.field-0.0 _ c.from_residual.ensures.1 (test_stops (neg_at c.args.nesting) c.args.text.now _ c.in_err-first.ensures)

pub test_at-loop-behind-init : goal.test_at-loop-behind-init
test_at-loop-behind-init t c =
    rw c.new-more.ensures.items (test_begun (neg_at c.args.nesting) c.args.text.now c.in_ok-first.rest.now (conj_of c.in_ok-first.first) c.in_ok-first.ensures)

pub test_at-returns-in_err-next : goal.test_at-returns-in_err-next
test_at-returns-in_err-next t c =
    handed_on test_of c.from_residual-in_err-next.result c.in_err-next.field-0.0 _ c.from_residual-in_err-next.ensures.1
    (underway_fail Or 124 (conj_with (neg_at c.args.nesting)) _ _ _ _ _ c.loop-behind.invariant (sym c.in-Some.ensures) c.in_err-next.ensures)

pub test_at-loop-behind-smaller : goal.test_at-loop-behind-smaller
test_at-loop-behind-smaller t c =
    let behind = sign_shorter 124 _ _ (sym c.in-Some.ensures) in
    let after = conj_shorter c.args.nesting _ _ _ c.in_ok-next.ensures in
    omega (arith, behind, after)

pub test_at-loop-behind-preserved : goal.test_at-loop-behind-preserved
test_at-loop-behind-preserved t c =
    let read = c.in_ok-next.ensures in
    underway_push Or conj_of _ 124 (conj_with (neg_at c.args.nesting)) c.loop-behind.more.items c.in_ok-next.next c.push.new.self.items c.loop-behind.rest.now c.in-Some.behind.now c.in_ok-next.after.now _ c.in_ok-push.ensures.items c.loop-behind.invariant (sym c.in-Some.ensures) read (conj_shorter c.args.nesting _ _ _ read)

pub test_at-returns : goal.test_at-returns
test_at-returns t c =
    rw c.of.ensures (underway_end Or 124 (conj_with (neg_at c.args.nesting)) _ _ _ c.loop-behind.invariant (sym (rw c.in_default.is at c.after_sign.ensures)))
