use Rattle.std.proofs.Common.{◌≡◌, ◌+◌, ◌≤◌, length, reverse}
use Rattle.template_check.specs.OpenElements.{has_part}
use Rattle.template_check.proofs.elements.has_part.Given as goal

abbrev pub invariant-loop-token : goal.invariant-loop-token
invariant-loop-token l = record { few : l.ended + length l.rest ≤ length l.tokens; so_far : has_part l.wanted l.ended (reverse l.rest) ≡ has_part l.wanted 0 (reverse l.tokens) }

abbrev pub decreases-loop-token : goal.decreases-loop-token
decreases-loop-token l = length l.rest
