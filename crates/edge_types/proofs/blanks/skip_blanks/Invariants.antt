use Rattle.std.proofs.Common.{◌≡◌, length}
use Rattle.edge_types.specs.Blanks.{skip_blanks}
use Rattle.edge_types.proofs.blanks.skip_blanks.Given as goal

abbrev pub invariant-loop-text : goal.invariant-loop-text
invariant-loop-text l = skip_blanks l.text ≡ skip_blanks l.fn.text

abbrev pub decreases-loop-text : goal.decreases-loop-text
decreases-loop-text l = length l.text
