use Rattle.std.proofs.Common.{◌≡◌, ◌%◌, take, sum}
use Rattle.shared_cache.specs.declared.cache.TheConstants.{SHARDS}
use Rattle.shared_cache.proofs.placing.sum_of.Given as goal

abbrev pub invariant-loop-byte : goal.invariant-loop-byte
invariant-loop-byte l = (l.sum ≡ sum (take l.byte-index l.byte-items) % SHARDS)
