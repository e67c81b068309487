use Rattle.std.proofs.Common.{rules}
use Rattle.origins.proofs.FaultLemmas.{faults-put}
use Rattle.origins.proofs.latest_faults.LatestFaults.note.Goals as goal

pub returns-clause-ok : goal.returns-clause-ok
returns-clause-ok c = faults-put c.args.url.now c.in_ok-share.field-0 c.args.fault c.self.inside.cache c.put.new.self c.self.invariant (search rules) c.in_ok-put.ensures.entries c.args.self.now c.self.view_is
