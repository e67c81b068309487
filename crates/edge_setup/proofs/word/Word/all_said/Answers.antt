use Rattle.std.proofs.Common.{◌∙◌, ap}
use Rattle.clap.specs.Words.{all_of, found_of, rows_of}
use Rattle.clap.proofs.WalkLemmas.{raw_values-rows}
use Rattle.edge_setup.proofs.word.Word.all_said.Goals as goal
use Rattle.edge_setup.specs.Options.{Worded}

pub returns : goal.returns
returns c =
    let rows = rows_of (found_of c.args.matches.now) in
    c.get_raw.ensures ∙ raw_values-rows (found_of c.args.matches.now) c.row.result.name.now
    ∙ ap (λ (row : Worded). all_of row.name rows) c.row.ensures
