use Rattle.std.proofs.Common.{◌∙◌, ap, rules}
use Rattle.std.specs.Arc.{arc_value}
use Rattle.edge_types.specs.Answered.{Answered}
use Rattle.fragment_cache.proofs.NameLemmas.{lands_named}
use Rattle.fragment_cache.proofs.shard.Shard.land.Goals as goal

pub returns-clause-named : goal.returns-clause-named
returns-clause-named c =
    ap (λ (a : Answered). a.url) c.into_arc.ensures
    ∙ lands_named c.args.self.now c.touch_down-answer.new.self c.args.flight (arc_value c.args.answer) c.args.now c.touch_down-answer.result c.sound.ensures c.requires (search rules)
