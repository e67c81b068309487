use Rattle.std.proofs.Common.{◌≡◌, map}
use Rattle.std.specs.Arc.{arc_value}
use Rattle.fetch_workers.specs.Ways.{counts_of}
use Rattle.fetch_workers.specs.declared.log.Own.{Own}
use Rattle.fetch_workers.proofs.log.answers_of.Given as goal

abbrev pub invariant-loop-one : goal.invariant-loop-one
invariant-loop-one l =
    (map arc_value l.log.items ≡ map (λ (o : Own). o.answer) l.yielded)
    × (l.ways ≡ counts_of (map (λ (o : Own). o.way) l.yielded))
