use Rattle.std.proofs.Common.{◌≡◌, filter, map}
use Rattle.std.specs.Map.Iter.{deref_pair}
use Rattle.std.specs.Map.{keys_of}
use Rattle.fragment_cache.specs.Machine.{begins}
use Rattle.fragment_cache.proofs.entries.begun_by.Given as goal

abbrev pub invariant-loop-url : goal.invariant-loop-url
invariant-loop-url l = l.urls.items ≡ filter (begins l.prefix) (keys_of (map deref_pair l.yielded))
