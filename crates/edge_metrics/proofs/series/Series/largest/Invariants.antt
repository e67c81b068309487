use Rattle.std.proofs.Common.{◌≡◌, take}
use Rattle.edge_metrics.specs.Page.{largest}
use Rattle.edge_metrics.proofs.series.Series.largest.Given as goal

abbrev pub invariant-loop-sample : goal.invariant-loop-sample
invariant-loop-sample l = l.largest ≡ largest l.self (take l.sample-index l.samples)
