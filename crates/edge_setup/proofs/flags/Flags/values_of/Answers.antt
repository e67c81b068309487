use Rattle.std.proofs.Common.{◌∙◌, Bool, List, ◌∷◌, ◌++◌, [], sym, ap₂}
use Rattle.clap.specs.Words.{found_of, rows_of}
use Rattle.edge_setup.specs.Options.{flag_options, is_flag_set}
use Rattle.edge_setup.proofs.NumberLemmas.{map_next}
use Rattle.edge_setup.proofs.flags.Flags.values_of.Goals as goal

pub loop-flag-preserved : goal.loop-flag-preserved
loop-flag-preserved c =
    let rows = rows_of (found_of c.args.matches.now) in
    c.in_ok-push.ensures
    ∙ ap₂ (λ (xs : List Bool) x. xs ++ x ∷ []) c.loop-flag.invariant c.is_set.ensures
    ∙ sym (map_next (λ flag. is_flag_set flag rows) flag_options c.loop-flag.flag-index _ c.loop-flag-test.true)
