use Rattle.std.proofs.Common.{◌≡◌, ◌+◌, ◌≤◌, length, reverse}
use Rattle.template_check.specs.OpenElements.{innermost}
use Rattle.template_check.proofs.elements.innermost.Given as goal

abbrev pub invariant-loop-token : goal.invariant-loop-token
invariant-loop-token l = record { few : l.ended + length l.rest ≤ length l.tokens; so_far : innermost l.ended (reverse l.rest) ≡ innermost 0 (reverse l.tokens) }

abbrev pub decreases-loop-token : goal.decreases-loop-token
decreases-loop-token l = length l.rest
