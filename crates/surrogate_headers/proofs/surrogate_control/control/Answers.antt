use Rattle.std.proofs.Common.{◌≡◌, ap, ◌∙◌}
use Rattle.surrogate_headers.specs.Cut.{parts_of, parts_left}
use Rattle.surrogate_headers.specs.Control.{directives_among, directives_of, control_by, control_of}
use Rattle.surrogate_headers.specs.Found.{settled}
use Rattle.surrogate_headers.proofs.FoundLemmas.{settled_nothing}
use Rattle.surrogate_headers.proofs.surrogate_control.control.Goals as goal

pub loop-part-init : goal.loop-part-init
unfolding control_of directives_of
loop-part-init c =
    let value = c.args.value.now in
    let device = c.args.device.now in
    let parts : parts_left c.into_iter-part-iterator.result ≡ parts_of value = ap parts_left c.into_iter-part-iterator.ensures.into_iter_gives ∙ c.of-part-items.ensures in
    ap (λ found. settled found device (directives_among (parts_left c.into_iter-part-iterator.result))) c.nothing-found.ensures
    ∙ settled_nothing device (directives_among (parts_left c.into_iter-part-iterator.result))
    ∙ ap (λ ps. control_by (directives_among ps) device) parts
