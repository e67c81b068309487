use Rattle.std.proofs.Common.{◌≡◌, ℕ, Some, ◌∙◌, ap, subst}
use Rattle.fragment_cache.specs.declared.flight_state.TheConstants.{MAX_PICKS}
use Rattle.fragment_cache.specs.Machine.{Airspace, State, flying_at, picks_at}
use Rattle.fragment_cache.proofs.FlightLemmas.{picks_at-full}
use Rattle.fragment_cache.proofs.shard.Shard.depart.Goals as goal

pub returns-then-not-join : goal.returns-then-not-join
returns-then-not-join c = λ now none. (
  ap (λ (a : Airspace). record { entries = c.self.inside.entries.entries; flights = a.flights; next = a.next; capacity = c.self.inside.entries.capacity }) c.if-not-join.ensures.1 ∙ c.self.view_is,
  λ _. subst (λ (s : State). (number : ℕ) → flying_at s.flights number ≡ Some c.args.url.now → picks_at s.flights number ≡ MAX_PICKS) c.self.view_is
      (picks_at-full c.self.inside.flights.flights c.self.inside.flights.next c.args.url.now c.in-Some.number MAX_PICKS c.sound.ensures c.in-Some.ensures c.if-not-join.ensures.0),
)
