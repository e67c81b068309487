-- The room that is left is what the fields that are left may take.
use Rattle.std.proofs.Common.{◌≡◌, ◌+◌, length}
use Rattle.edge_types.specs.HeadFields.{size_of}
use Rattle.edge_types.proofs.head_fields.are_short.Given as goal

abbrev pub invariant-loop-left : goal.invariant-loop-left
invariant-loop-left l = l.room + size_of l.fields ≡ 8192 + size_of l.left

abbrev pub decreases-loop-left : goal.decreases-loop-left
decreases-loop-left l = length l.left
