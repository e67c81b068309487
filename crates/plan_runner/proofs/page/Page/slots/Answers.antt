use Rattle.std.proofs.Common.{arith, ap}
use Rattle.plan_runner.specs.Page.{Page}
use Rattle.plan_runner.proofs.Keeping.{few_slots}
use Rattle.plan_runner.proofs.page.Page.slots.Goals as goal

pub returns-clause-few : goal.returns-clause-few
returns-clause-few c =
    let ahead = ap (λ (v : Page). v.ahead) c.self.view_is in
    omega (arith, few_slots c.self.inside c.self.invariant, c.len.ensures, ahead)
