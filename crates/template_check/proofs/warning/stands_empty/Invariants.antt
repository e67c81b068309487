use Rattle.std.proofs.Common.{◌≡◌, false, length}
use Rattle.template_check.specs.Warnings.{stands_empty}
use Rattle.template_check.proofs.warning.stands_empty.Given as goal

abbrev pub invariant-loop-byte : goal.invariant-loop-byte
invariant-loop-byte l = stands_empty l.behind_bar l.rest ≡ stands_empty false l.test

abbrev pub decreases-loop-byte : goal.decreases-loop-byte
decreases-loop-byte l = length l.rest
