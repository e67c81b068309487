-- The room lies between what has room and what hasn't.
use Rattle.std.proofs.Common.{◌≤◌, ◌<◌, ◌-◌}
use Rattle.edge_parts.specs.OpenFiles.{needed}
use Rattle.edge_parts.proofs.open_files.Numbers.room.Given as goal

abbrev pub invariant-loop-beyond : goal.invariant-loop-beyond
invariant-loop-beyond l = record {
  one : 1 ≤ l.room;
  apart : l.room < l.beyond;
  asked : l.beyond ≤ l.self.connections;
  fits : 1 < l.room → needed l.self l.room ≤ l.limit;
  over : l.limit < needed l.self l.beyond;
}

abbrev pub decreases-loop-beyond : goal.decreases-loop-beyond
decreases-loop-beyond l = l.beyond - l.room
