use Rattle.std.proofs.Common.{◌≡◌, ◌+◌}
use Rattle.edge_commands.proofs.checking.check_files.Given as goal

abbrev pub invariant-loop-name : goal.invariant-loop-name
invariant-loop-name g l = l.sum.files + l.sum.unread ≡ l.name-index
