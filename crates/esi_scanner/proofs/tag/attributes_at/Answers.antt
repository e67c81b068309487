use Rattle.std.proofs.Common.{◌≡◌, ◌<◌, length, Some, None, sym, arith}
use Rattle.esi_scanner.specs.Tag.{attribute_at}
use Rattle.esi_scanner.proofs.AttributeLemmas.{attributes-step, attributes-end}
use Rattle.esi_scanner.proofs.tag.attributes_at.Goals as goal

pub loop-attributes-preserved : goal.loop-attributes-preserved
loop-attributes-preserved c =
    let found : attribute_at c.loop-attributes.rest.now ≡ Some (c.in-Some.attribute, c.in-Some.after.now) = sym (rw c.in-Some.is at c.in_ok-attribute.ensures.value) in
    let shorter : length c.in-Some.after.now < length c.loop-attributes.rest.now = rw c.in-Some.is at c.in_ok-attribute.ensures.shorter in
    (omega arith, rw c.in_ok-push.ensures.items (attributes-step c.args.text.now c.loop-attributes.attributes.items c.loop-attributes.rest.now c.in-Some.after.now c.in-Some.attribute found shorter c.loop-attributes.invariant.1))

pub returns-clause-value : goal.returns-clause-value
returns-clause-value c =
    let none : attribute_at c.loop-attributes.rest.now ≡ None = sym (rw c.in_default.is at c.in_ok-attribute.ensures.value) in
    attributes-end c.args.text.now c.loop-attributes.attributes.items c.loop-attributes.rest.now none c.loop-attributes.invariant.1
