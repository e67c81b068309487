use Rattle.std.proofs.Common.{length}
use Rattle.edge_bench.proofs.caching.+fly.Given as goal

-- each call has one answer less to lead a flight for
abbrev pub decreases-fly : goal.decreases-fly
decreases-fly l = length l.left.now
