-- The answers of URLs that rest name these URLs.
use Rattle.std.proofs.Common.{◌≡◌, ℕ, List, Option, Some, None, Result, Ok, Err, IfOk, IfSome, MatchOption}
use Rattle.std.specs.List.{AllByRecursion}
use Rattle.edge_types.specs.Answered.{Answered}
use Rattle.fragment_cache.specs.Machine.{Entries, fresh}
use Rattle.fragment_cache.specs.Sound.{IsNamed}
use Rattle.fragment_cache.proofs.EntryLemmas.{fresh_named}

pub found_named : {A E : Type 0} (value : A → Answered) (entries : Entries) (url : List ℕ) (now : ℕ) (result : Result (Option A) E) → AllByRecursion IsNamed entries
    → IfOk result (λ found. MatchOption found (fresh entries url now ≡ None) (λ answer. fresh entries url now ≡ Some (value answer)))
    → IfOk result (λ found. IfSome found (λ answer. (value answer).url ≡ url))
found_named value entries url now (Ok None) named is = tt
found_named value entries url now (Ok (Some answer)) named is = fresh_named entries url now (value answer) named is
found_named value entries url now (Err e) named is = tt
