-- What callers see of the answers of a shard: owners of answers as the answers.
use Rattle.std.specs.Arc.{arc_value}
use Rattle.fragment_cache.specs.declared.shard.Begun.{Begun}
use Rattle.fragment_cache.specs.declared.shard.Begun.TheVariants as begun
use Rattle.fragment_cache.specs.declared.flights.Picked.{Picked}
use Rattle.fragment_cache.specs.declared.flights.Picked.TheVariants as picked
use Rattle.fragment_cache.specs.Steps.{BeginAnswer, Hit, Join, Lead, Bypass, PickAnswer, Here, Flying, Unknown}

-- the result of `begin`
abbrev pub begun_answer : Begun → BeginAnswer
begun_answer (begun.Hit answer) = Hit (arc_value answer)
begun_answer (begun.Join number) = Join number
begun_answer (begun.Lead flight ready) = Lead flight (arc_value ready)
begun_answer begun.Bypass = Bypass

-- the result of `pick`
abbrev pub picked_answer : Picked → PickAnswer
picked_answer (picked.Here answer) = Here (arc_value answer)
picked_answer picked.Flying = Flying
picked_answer picked.Unknown = Unknown
