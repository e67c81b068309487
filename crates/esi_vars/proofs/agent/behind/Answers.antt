use Rattle.std.proofs.Common.{arith, sym}
use Rattle.std.proofs.lemmas.Bool.{eqb-true}
use Rattle.esi_vars.proofs.AgentLemmas.{behind_found, behind_nothing}
use Rattle.esi_vars.proofs.agent.behind.Goals as goal

pub returns-then-is_empty : goal.returns-then-is_empty
returns-then-is_empty c = behind_nothing c.args.word.now c.args.text.now (eqb-true _ _ (sym c.if-is_empty.ensures))

pub returns : goal.returns
returns c = behind_found c.args.word.now c.args.text.now c.in_ok-at.at (grind (arith, c.if-is_empty.ensures)) c.in_ok-at.ensures
