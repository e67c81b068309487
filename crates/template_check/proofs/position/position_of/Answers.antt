use Rattle.std.proofs.Common.{◌≡◌, ℕ, List, take, min, length, ◌∙◌, ap}
use Rattle.template_check.specs.Positions.{position_of, behind_all}
use Rattle.template_check.proofs.position.position_of.Goals as goal

pub returns : goal.returns
unfolding position_of
returns c =
    let text = c.args.text.now in
    let before : c.split_at.result.0.now ≡ take (min c.args.place (length text)) text = c.split_at.ensures.front ∙ ap (λ n. take n text) c.min.ensures in
    c.behind.ensures.value ∙ ap (λ (bytes : List ℕ). behind_all bytes (record { line = 1; column = 1 })) before
