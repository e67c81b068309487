use Rattle.std.proofs.Common.{sym, ◌∙◌}
use Rattle.esi_scanner.proofs.EntityLemmas.{decoded-start, decoded-step, decoded-end}
use Rattle.esi_scanner.proofs.entity.decoded.Goals as goal

pub loop-byte-init : goal.loop-byte-init
loop-byte-init c = rw c.in_ok-value.ensures.items (decoded-start c.args.raw.now)

pub loop-byte-preserved : goal.loop-byte-preserved
loop-byte-preserved c =
    rw c.in_ok-push.ensures.items (decoded-step c.args.raw.now c.loop-byte.value.items c.loop-byte.rest.now c.in-Some.after.now c.in-Some.byte (sym c.in-Some.ensures.value) c.in-Some.ensures.shorter c.loop-byte.invariant)

pub returns : goal.returns
returns c =
    c.of.ensures ∙ decoded-end c.args.raw.now c.loop-byte.value.items c.loop-byte.rest.now (sym c.in_default.ensures.value) c.loop-byte.invariant
