use Rattle.std.proofs.Common.{◌≡◌, ◌++◌, take}
use Rattle.std.specs.List.{flat_map}
use Rattle.edge_metrics.specs.Text.{strays_from}
use Rattle.edge_metrics.proofs.fetch_text.push_strays_of_each.Given as goal

abbrev pub invariant-loop-origin : goal.invariant-loop-origin
invariant-loop-origin l = l.text.items ≡ l.initial.text.items ++ flat_map strays_from (take l.origin-index l.origins)
