use Rattle.std.proofs.Common.{subst}
use Rattle.plan_runner.specs.Sound.{IsSound}
use Rattle.plan_runner.proofs.Sound.{page_sound}
use Rattle.plan_runner.proofs.page.Page.sound.Goals as goal

pub returns : goal.returns
returns c = subst IsSound c.self.view_is (page_sound c.self.inside c.self.invariant)
