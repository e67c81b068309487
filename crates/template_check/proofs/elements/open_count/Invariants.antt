use Rattle.std.proofs.Common.{◌≡◌, ◌+◌, ◌≤◌, length, reverse}
use Rattle.template_check.specs.OpenElements.{open_count}
use Rattle.template_check.proofs.elements.open_count.Given as goal

abbrev pub invariant-loop-token : goal.invariant-loop-token
invariant-loop-token l = record { few : l.ended + length l.rest ≤ length l.tokens; less : l.count + length l.rest ≤ length l.tokens; so_far : l.count + open_count l.ended (reverse l.rest) ≡ open_count 0 (reverse l.tokens) }

abbrev pub decreases-loop-token : goal.decreases-loop-token
decreases-loop-token l = length l.rest
