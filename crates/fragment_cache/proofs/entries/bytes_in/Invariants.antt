use Rattle.std.proofs.Common.{◌≡◌, map}
use Rattle.std.specs.Map.Iter.{deref_pair}
use Rattle.fragment_cache.specs.Machine.{bytes_of}
use Rattle.fragment_cache.proofs.entries.bytes_in.Given as goal

abbrev pub invariant-loop-stored : goal.invariant-loop-stored
invariant-loop-stored l = l.bytes ≡ bytes_of (map deref_pair l.yielded)
