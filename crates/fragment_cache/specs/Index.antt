-- The index of the flights under way.
use Rattle.std.specs.Prelude.{◌≡◌, ℕ, ◌<◌, List, Option, Some, cond}
use Rattle.std.specs.List.{AllByRecursion}
use Rattle.std.specs.Ordering.{nat_cmp}
use Rattle.std.specs.Cmp.Lexicographic.{slice_cmp}
use Rattle.std.specs.BTreeMap.{BTreeMap, get, is_at}
use Rattle.fragment_cache.specs.Machine.{Flights, flying_at}
use Rattle.fragment_cache.specs.Sound.{HasNamed}

abbrev pub Numbers : Type 0
Numbers = BTreeMap (List ℕ) ℕ

-- the index after a change of one URL's number
abbrev pub Changes : List ℕ → Option ℕ → Numbers → Numbers → Type 0
Changes url number before after = (q : List ℕ) → get (slice_cmp nat_cmp) after q ≡ cond (is_at (slice_cmp nat_cmp url) q) number (get (slice_cmp nat_cmp) before q)

-- both indexes have the same numbers
abbrev pub HaveSameNumbers : Numbers → Numbers → Type 0
HaveSameNumbers before after = (q : List ℕ) → get (slice_cmp nat_cmp) after q ≡ get (slice_cmp nat_cmp) before q

-- the index has the number of the flight that is under way for each URL
pub record Indexed (flying : BTreeMap (List ℕ) ℕ) (flights : Flights) (next : ℕ) : Type 0 where
  pub found : (url : List ℕ) (number : ℕ) → get (slice_cmp nat_cmp) flying url ≡ Some number → flying_at flights number ≡ Some url
  pub listed : (url : List ℕ) (number : ℕ) → flying_at flights number ≡ Some url → get (slice_cmp nat_cmp) flying url ≡ Some number
  pub below : AllByRecursion (λ e. e.0 < next) flights
  pub named : AllByRecursion (λ e. HasNamed e.1) flights
