use Rattle.std.proofs.Common.{◌≡◌, true, false, sym}
use Rattle.esi_scanner.proofs.DistinctLemmas.{has_key, seen-start, seen-repeats, seen-step, seen-end, not-not, not-true}
use Rattle.esi_scanner.proofs.tag.are_distinct.Goals as goal

pub loop-attribute-init : goal.loop-attribute-init
loop-attribute-init c = rw c.new-seen.ensures.empty (seen-start c.args.attributes.now)

pub returns-then-not-branch : goal.returns-then-not-branch
returns-then-not-branch c =
    let has : has_key c.loop-attribute.seen.keys c.as_bytes.result ≡ true = not-not _ _ c.in_ok-insert.ensures.added c.if-not-branch.true in
    sym (seen-repeats c.args.attributes.now c.in-Some.before.now c.loop-attribute.rest.now c.loop-attribute.seen.keys c.in-Some.attribute.now c.as_bytes.result c.in-Some.ensures.cases.0 c.as_bytes.ensures has c.loop-attribute.invariant)

pub loop-attribute-preserved : goal.loop-attribute-preserved
loop-attribute-preserved c =
    let has : has_key c.loop-attribute.seen.keys c.as_bytes.result ≡ false = not-true _ _ c.in_ok-insert.ensures.added c.if-not-branch.false in
    seen-step c.args.attributes.now c.in-Some.before.now c.loop-attribute.rest.now c.loop-attribute.seen.keys c.insert.new.self.keys c.in-Some.attribute.now c.as_bytes.result c.in-Some.ensures.cases.0 c.as_bytes.ensures has c.in_ok-insert.ensures.updates.0 c.loop-attribute.invariant

pub returns : goal.returns
returns c =
    sym (seen-end c.args.attributes.now c.loop-attribute.rest.now c.loop-attribute.seen.keys c.in_default.ensures.cases c.loop-attribute.invariant)
