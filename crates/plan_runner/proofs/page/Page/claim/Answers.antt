use Rattle.plan_runner.proofs.Keeping.{kept_claimed}
use Rattle.plan_runner.proofs.page.Page.claim.Goals as goal

pub invariant_of-self : goal.invariant_of-self
invariant_of-self c = kept_claimed c.self.inside c.claim.new.self c.claim.result c.claim.ensures.step c.claim.ensures.keeps c.claim.ensures.log c.claim.ensures.sound c.self.invariant
