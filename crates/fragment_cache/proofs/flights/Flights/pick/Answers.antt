use Rattle.std.proofs.Common.{◌≡◌, None, sym, subst, refl, inl}
use Rattle.fragment_cache.specs.Machine.{Airspace, flight_at}
use Rattle.fragment_cache.proofs.FlightLemmas.{Indexed-picked, landed_at-found}
use Rattle.fragment_cache.proofs.flights.Flights.pick.Goals as goal

pub returns-in-None-clause-picks : goal.returns-in-None-clause-picks
returns-in-None-clause-picks c =
    inl (subst (λ (a : Airspace). flight_at a.flights c.args.number ≡ None) c.self.view_is (sym c.in-None.ensures.value), refl)

pub invariant_of-self : goal.invariant_of-self
invariant_of-self c =
    Indexed-picked c.self.inside.flying c.self.inside.by_number.entries c.use_up.new.flights.entries c.self.inside.next c.args.number
    (landed_at-found c.self.inside.by_number.entries c.args.number c.in-Some.flight.now c.in-Some-landed.landed.now c.in-Some.ensures.value c.in-Some-landed.ensures)
    c.use_up.ensures c.self.invariant
