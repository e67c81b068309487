use Rattle.std.proofs.Common.{◌≡◌, ◌++◌, take}
use Rattle.std.specs.List.{flat_map}
use Rattle.edge_metrics.specs.Text.{from_origin}
use Rattle.edge_metrics.proofs.fetch_text.push_origins.Given as goal

abbrev pub invariant-loop-origin : goal.invariant-loop-origin
invariant-loop-origin l = l.text.items ≡ l.initial.text.items ++ flat_map from_origin (take l.origin-index l.origins)
