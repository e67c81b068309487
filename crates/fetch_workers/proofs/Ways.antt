-- Counts of the ways by which answers came.
use Rattle.std.proofs.Common.{◌≡◌, List, [], ◌∷◌, ◌++◌, length, map, refl, sym, ◌∙◌, ap}
use Rattle.std.proofs.lemmas.List.{length-map, map-append}
use Rattle.edge_types.specs.Answered.{Answered}
use Rattle.answer_sources.specs.Ways.{counted, no_way}
use Rattle.fetch_workers.specs.Ways.{counted_all, counts_of}
use Rattle.answer_sources.specs.declared.given.Way.{Way}
use Rattle.answer_sources.specs.declared.given.WayCounts.{WayCounts}
use Rattle.fetch_workers.specs.declared.log.Own.{Own}

counted_last : (counts : WayCounts) (ways : List Way) (last : Way) → counted_all counts (ways ++ last ∷ []) ≡ counted last (counted_all counts ways)
counted_last counts [] last = refl
counted_last counts (first ∷ ways) last = counted_last (counted first counts) ways last

-- one more answer is counted after those before it
pub counts_of_push : (own : List Own) (one : Own) → counts_of (map (λ (o : Own). o.way) (own ++ one ∷ [])) ≡ counted one.way (counts_of (map (λ (o : Own). o.way) own))
counts_of_push own one = ap counts_of (map-append (λ (o : Own). o.way) own (one ∷ [])) ∙ counted_last no_way (map (λ (o : Own). o.way) own) one.way

-- there are as many ways as answers
pub as_many_ways : (own : List Own) (log : List Answered) → log ≡ map (λ (o : Own). o.answer) own → length (map (λ (o : Own). o.way) own) ≡ length log
as_many_ways own log same = length-map own (λ (o : Own). o.way) ∙ sym (ap length same ∙ length-map own (λ (o : Own). o.answer))
