use Rattle.plan_compiler.proofs.Bound.{frames_are_short}
use Rattle.plan_compiler.proofs.laws.frames_are_short.Goals as goal

pub returns : goal.returns
returns c = frames_are_short
