-- Lists of answers that a source gave.
use Rattle.std.proofs.Common.{◌≡◌, ℕ, List, map, subst, sym}
use Rattle.std.proofs.lemmas.List.Elements.{All-map}
use Rattle.std.proofs.lemmas.List.Sorted.{All-permutation}
use Rattle.std.specs.List.Sorted.{IsPermutation}
use Rattle.edge_types.specs.Answered.{Answered}
use Rattle.fetch_workers.specs.declared.log.Own.{Own}
use Rattle.fetch_workers.specs.Given.{AllGiven, AllOwn}

-- a log that is the workers' own answers, in some order
pub own_given : (gives : List ℕ → Answered → Type 0) (own sorted : List Own) (log : List Answered) → IsPermutation own sorted → log ≡ map (λ (o : Own). o.answer) sorted → AllOwn gives own → AllGiven gives log
own_given gives own sorted log order same given =
    let kept = All-permutation (λ (o : Own). gives o.answer.url o.answer) own sorted order given in
    subst (AllGiven gives) (sym same) (All-map (λ (a : Answered). gives a.url a) (λ (o : Own). o.answer) sorted kept)
