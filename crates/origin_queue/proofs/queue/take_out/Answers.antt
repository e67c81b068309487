use Rattle.std.proofs.Common.{rules, not, nat_eq}
use Rattle.std.proofs.lemmas.Fn.{filter_same}
use Rattle.origin_queue.proofs.queue.take_out.Goals as goal

pub returns-clause-after : goal.returns-clause-after
returns-clause-after c = filter_same _ (λ other. not (nat_eq other c.args.number)) _ (λ x b f' k. search rules) _ _ c.retain.ensures.filtered
