-- The answers that a shard gives name their URLs.
use Rattle.std.proofs.Common.{◌≡◌, inl, inr, ℕ, List, Option, Some, None, Result, Ok, Err, IfOk, IfSome, MatchOption, ◌∙◌, ap}
use Rattle.std.specs.List.{AllByRecursion}
use Rattle.edge_types.specs.Answered.{Answered}
use Rattle.fragment_cache.specs.Machine.{Flight, Shelf, State, fresh, used}
use Rattle.fragment_cache.specs.Steps.{BeginAnswer, Hit, Join, Lead, Bypass, Begins, LandsSomehow}
use Rattle.fragment_cache.specs.Sound.{IsNamed, IsSound, NamesUrl}
use Rattle.fragment_cache.proofs.EntryLemmas.{fresh_named, bridging_named}

pub begins_named : (old new : State) (url : List ℕ) (now : ℕ) (answer : BeginAnswer) → IsSound old → Begins old url now answer new → NamesUrl url answer
begins_named old new url now (Hit answer) sound step = fresh_named old.entries url now answer sound.entries.named step.0
begins_named old new url now (Join number) sound step = tt
begins_named old new url now (Lead flight ready) sound step = (ap (λ (f : Flight). f.url) step.2.2, ap (λ (a : Answered). a.url) step.2.3)
begins_named old new url now Bypass sound step = tt

pub found_named : {A E : Type 0} (value : A → Answered) (old new : Shelf) (url : List ℕ) (now : ℕ) (result : Result (Option A) E) → AllByRecursion IsNamed old.entries
    → IfOk result (λ found. MatchOption found
    ((fresh old.entries url now ≡ None) × (new ≡ old))
    (λ answer. (fresh old.entries url now ≡ Some (value answer)) × (new ≡ record old { entries = used url old.entries })))
    → IfOk result (λ found. IfSome found (λ answer. (value answer).url ≡ url))
found_named value old new url now (Ok None) named step = tt
found_named value old new url now (Ok (Some answer)) named step = fresh_named old.entries url now (value answer) named step.0
found_named value old new url now (Err e) named step = tt

pub lands_named : (old new : State) (flight : Flight) (answer : Answered) (now : ℕ) (given : Answered) → IsSound old → answer.url ≡ flight.url → LandsSomehow old flight answer now given new → given.url ≡ flight.url
lands_named old new flight answer now given sound named (inl step) = ap (λ (a : Answered). a.url) step.1 ∙ named
lands_named old new flight answer now given sound named (inr (inl step)) = bridging_named old.entries flight.url now given sound.entries.named step.2
lands_named old new flight answer now given sound named (inr (inr (inl step))) = ap (λ (a : Answered). a.url) step.1 ∙ named
lands_named old new flight answer now given sound named (inr (inr (inr step))) = ap (λ (a : Answered). a.url) step.1 ∙ named
