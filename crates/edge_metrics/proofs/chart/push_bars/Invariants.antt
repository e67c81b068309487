use Rattle.std.proofs.Common.{◌≡◌, ◌+◌, ◌*◌, ◌++◌, drop}
use Rattle.edge_metrics.specs.Page.{bars, left_of}
use Rattle.edge_metrics.proofs.chart.push_bars.Given as goal

abbrev pub invariant-loop-sample : goal.invariant-loop-sample
invariant-loop-sample l = record {
  so_far : l.page.items ++ bars l.series l.largest l.left (drop l.sample-index l.samples) ≡ l.initial.page.items ++ bars l.series l.largest (left_of l.samples) l.samples;
  here : l.left ≡ left_of l.samples + 10 * l.sample-index;
}
