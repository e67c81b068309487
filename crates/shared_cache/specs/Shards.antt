-- Which shard of a cache keeps the answers of a URL.
use Rattle.std.specs.Prelude.{ℕ, Bool, ◌%◌, ◌/◌, ◌^◌, List, sum, Option, Some, None, if◌then◌else◌}
use Rattle.fragment_cache.specs.Hashing.{hash_of}
use Rattle.shared_cache.specs.declared.cache.TheConstants.{SHARDS}
use Rattle.shared_cache.specs.declared.placing.Placing.{Placing}
use Rattle.shared_cache.specs.declared.placing.Placing.TheVariants.{BySum, ByHash}

-- the sum of its bytes, or the upper half of its hash, modulo the number of shards
abbrev pub shard_of : Placing → List ℕ → ℕ
shard_of BySum url = sum url % SHARDS
shard_of (ByHash hashing) url = hash_of hashing url / 2 ^ 32 % SHARDS

-- where what is kept of a URL is: nowhere, where it is private
abbrev pub place_for : Bool → Placing → List ℕ → Option ℕ
place_for private placing url = if private then None else Some (shard_of placing url)
