use Rattle.std.proofs.Common.{◌≡◌, sym}
use Rattle.template_check.proofs.message.write_ends.Goals as goal

pub returns : goal.returns
returns g c = rw (sym c.element-outer.ensures) c.write.ensures.writes
