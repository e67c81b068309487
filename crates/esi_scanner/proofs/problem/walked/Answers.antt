use Rattle.std.proofs.Common.{◌≡◌, ◌<◌, ◌≤◌, true, false, length, sym, arith}
use Rattle.esi_scanner.proofs.DistinctLemmas.{has_key, not-not, not-true}
use Rattle.esi_scanner.proofs.ProblemLemmas.{walked-start, walked-repeats, walked-step, walked-end}
use Rattle.esi_scanner.proofs.problem.walked.Goals as goal

pub loop-name-init : goal.loop-name-init
loop-name-init c = rw c.new-seen.ensures.empty (omega arith, walked-start c.args.text.now)

pub returns-then-not-branch-clause-value : goal.returns-then-not-branch-clause-value
returns-then-not-branch-clause-value c =
    let has : has_key c.loop-name.seen.keys c.in-Some.name ≡ true = not-not _ _ c.in_ok-insert.ensures.added c.if-not-branch.true in
    walked-repeats c.args.text.now c.loop-name.seen.keys c.loop-name.rest.now c.in-Some.after.now c.in-Some.name (sym c.in-Some.ensures.value) c.in-Some.ensures.shorter has c.loop-name.invariant.1

pub loop-name-preserved : goal.loop-name-preserved
loop-name-preserved c =
    let new : has_key c.loop-name.seen.keys c.in-Some.name ≡ false = not-true _ _ c.in_ok-insert.ensures.added c.if-not-branch.false in
    let shorter : length c.in-Some.after.now < length c.loop-name.rest.now = c.in-Some.ensures.shorter in
    let within : length c.loop-name.rest.now ≤ length c.args.text.now = c.loop-name.invariant.0 in (
      omega (arith, shorter, within),
      walked-step c.args.text.now c.loop-name.seen.keys c.insert.new.self.keys c.loop-name.rest.now c.in-Some.after.now c.in-Some.name (sym c.in-Some.ensures.value) c.in-Some.ensures.shorter new c.in_ok-insert.ensures.updates.0 c.loop-name.invariant.1,
    )

pub returns-clause-value : goal.returns-clause-value
returns-clause-value c = walked-end c.args.text.now c.loop-name.seen.keys c.loop-name.rest.now (sym c.in_default.ensures.value) c.loop-name.invariant.1
