use Rattle.std.proofs.Common.{sym, ◌==◌}
use Rattle.edge_types.proofs.PositionLemmas.{position_or_len-some, position_or_len-none}
use Rattle.edge_types.proofs.request.place_or_len.Goals as goal

pub returns-in-Some-clause-first : goal.returns-in-Some-clause-first
returns-in-Some-clause-first c = sym (position_or_len-some (λ b. b == c.args.byte) c.args.text.now c.in-Some.at (sym c.in-Some.ensures.value))

pub returns-in-None-clause-first : goal.returns-in-None-clause-first
returns-in-None-clause-first c = sym (position_or_len-none (λ b. b == c.args.byte) c.args.text.now (sym c.in-None.ensures.value))
