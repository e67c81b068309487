-- What a cache counts of the answers that it was asked for.
use Rattle.std.specs.Prelude.{ℕ, ◌+◌, ◌-◌, ◌^◌, min}
use Rattle.fragment_cache.specs.declared.tally.CacheTally.{CacheTally}
use Rattle.fragment_cache.specs.declared.shard.Begun.{Begun}
use Rattle.fragment_cache.specs.declared.shard.Begun.TheVariants.{Hit, Join, Lead, Bypass}

-- a sum that no number of 64 bits exceeds
abbrev pub plus : ℕ → ℕ → ℕ
plus one other = min (one + other) (2 ^ 64 - 1)

-- nothing is stored, and nothing was asked for
abbrev pub nothing : CacheTally
nothing = record { entries = 0; bytes = 0; hits = 0; joins = 0; leads = 0; bypasses = 0; bridges = 0 }

-- one more was answered from what is stored
abbrev pub hit : CacheTally → CacheTally
hit tally = record tally { hits = plus tally.hits 1 }

-- one more bridges
abbrev pub bridged : CacheTally → CacheTally
bridged tally = record tally { bridges = plus tally.bridges 1 }

-- one more was asked for, and this was begun for it
abbrev pub noted : Begun → CacheTally → CacheTally
noted (Hit answer) tally = hit tally
noted (Join number) tally = record tally { joins = plus tally.joins 1 }
noted (Lead flight failed) tally = record tally { leads = plus tally.leads 1 }
noted Bypass tally = record tally { bypasses = plus tally.bypasses 1 }

-- what two have counted together
abbrev pub sum : CacheTally → CacheTally → CacheTally
sum one other = record {
  entries = plus one.entries other.entries;
  bytes = plus one.bytes other.bytes;
  hits = plus one.hits other.hits;
  joins = plus one.joins other.joins;
  leads = plus one.leads other.leads;
  bypasses = plus one.bypasses other.bypasses;
  bridges = plus one.bridges other.bridges;
}
