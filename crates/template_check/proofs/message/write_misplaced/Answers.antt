use Rattle.std.proofs.Common.{◌≡◌, sym}
use Rattle.template_check.proofs.message.write_misplaced.Goals as goal

pub returns : goal.returns
returns g c = rw (c.in-Some.is, sym c.element-inner.ensures, sym c.element-outer.ensures) c.write.ensures.writes
