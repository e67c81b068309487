use Rattle.plan_compiler.proofs.Jumps.{jumps_stay}
use Rattle.plan_compiler.proofs.laws.jumps_stay.Goals as goal

pub returns : goal.returns
returns c = jumps_stay
