use Rattle.std.proofs.Common.{arith}
use Rattle.esi_meaning.specs.Meaning.{most_legs}
use Rattle.plan_runner.proofs.advance.advance.Goals as goal

pub loop-stop-smaller : goal.loop-stop-smaller
unfolding most_legs
loop-stop-smaller c =
    let further = rw c.in-Went.is at c.in_ok-stop.ensures.further in
    omega (arith, further.0, further.1)
