use Rattle.std.proofs.Common.{◌∙◌, ℕ, List, ◌∷◌, ◌++◌, [], map, Option, Some, sym, ap, ap₂}
use Rattle.clap.specs.Words.{found_of, rows_of}
use Rattle.edge_setup.specs.Numbers.{numbers, row_of, said_of}
use Rattle.edge_setup.proofs.NumberLemmas.{map_next, map_more}
use Rattle.edge_setup.proofs.numbers.Numbers.values_of.Goals as goal

pub loop-number-preserved : goal.loop-number-preserved
loop-number-preserved c =
    let rows = rows_of (found_of c.args.matches.now) in
    map_next (λ number. said_of (row_of number) rows) numbers c.loop-number.number-index _ c.loop-number-test.true
    ∙ ap₂ (λ (xs : List (Option (Option ℕ))) x. xs ++ x ∷ []) c.loop-number.invariant (sym c.said.ensures ∙ c.in-Some.is)
    ∙ sym (map_more Some c.loop-number.values.items c.in-Some.value)
    ∙ ap (map Some) (sym c.in_ok-push-in-Some.ensures)
