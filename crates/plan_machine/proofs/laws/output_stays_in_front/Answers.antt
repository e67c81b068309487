use Rattle.plan_machine.proofs.Flows as flows
use Rattle.plan_machine.proofs.laws.output_stays_in_front.Goals as goal

pub returns : goal.returns
returns c = flows.flow_after
