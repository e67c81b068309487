use Rattle.std.proofs.Common.{◌≡◌, ℕ, List, Some, None, sym, subst}
use Rattle.fragment_cache.specs.Machine.{Airspace, Flight, flying_at}
use Rattle.fragment_cache.specs.Index.{Changes}
use Rattle.fragment_cache.specs.Steps.{Arrives}
use Rattle.fragment_cache.proofs.FlightLemmas.{Indexed-land}
use Rattle.fragment_cache.proofs.flights.Flights.land.Goals as goal

pub invariant_of-self : goal.invariant_of-self
invariant_of-self c =
    Indexed-land c.self.inside.flying c.remove.new.self c.self.inside.by_number.entries c.arrive.new.flights.entries c.self.inside.next c.args.flight.now.url c.args.flight.now.number c.args.answer.now
    c.self.invariant
    (subst (λ (a : Airspace). flying_at a.flights c.args.flight.now.number ≡ Some c.args.flight.now.url) (sym c.self.view_is) c.requires.flies)
    c.requires.named
    (subst (λ (url : List ℕ). Changes url None c.self.inside.flying c.remove.new.self) c.url.ensures c.remove.ensures.updates.0)
    (subst (λ (f : Flight). Arrives c.self.inside.by_number.entries f.number c.args.answer.now c.arrive.new.flights.entries) c.flight.view_is c.arrive.ensures)
