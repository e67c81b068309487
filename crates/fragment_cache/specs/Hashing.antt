-- What clauses read of a `UrlHashing`.
use Rattle.std.specs.Prelude.{◌≡◌, ℕ, List, length}
use Rattle.std.specs.Hash.FoldHasher.{initial, write, finish}
use Rattle.fragment_cache.specs.declared.hashing.UrlHashing.{UrlHashing}

-- the hash of a URL: its bytes, written at once after what the hasher was given first
abbrev pub hash_of : UrlHashing → List ℕ → ℕ
hash_of hashing url = finish (write hashing.seeded url)

-- the hasher was given sixteen bytes first
abbrev pub IsSeeded : UrlHashing → Type 0
IsSeeded hashing = (seed : List ℕ) × (length seed ≡ 16) × (hashing.seeded ≡ write initial seed)
