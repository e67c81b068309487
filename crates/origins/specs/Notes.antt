-- What a source notes of its fetches. Our profile.
use Rattle.std.specs.Prelude.{ℕ, ◌-◌, ◌≤◌, not, bytes_eq, List, ◌∷◌, length, take, filter, Option}
use Rattle.std.specs.List.{IsDistinct}
use Rattle.std.specs.Map.{lookup, keys_of}
use Rattle.fetch_outcomes.specs.declared.fetch_fault.FetchFault.{FetchFault}

abbrev pub Entries : Type 0
Entries = List (List ℕ × FetchFault)

-- the faults of the URLs that failed last, that of the latest failure first, and how many there may be
pub record Faults : Type 0 where
  pub entries : Entries
  pub capacity : ℕ

-- no URL has two faults, and there are no more than the capacity
pub record AreFaults (capacity : ℕ) (entries : Entries) : Type 0 where
  pub distinct : IsDistinct bytes_eq (keys_of entries)
  pub within : length entries ≤ capacity

-- the fault with which a URL failed last
abbrev pub fault_of : Faults → List ℕ → Option FetchFault
fault_of faults url = lookup (bytes_eq url) faults.entries

-- the faults of all other URLs
abbrev pub others : List ℕ → Entries → Entries
others url entries = filter (λ e. not (bytes_eq url e.0)) entries

-- this fault of the URL first, in place of an older one of it, else of the last one where there are as many as may be
abbrev pub noted : FetchFault → List ℕ → Faults → Faults
noted fault url faults = record faults { entries = (url, fault) ∷ take (faults.capacity - 1) (others url faults.entries) }
