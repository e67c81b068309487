use Rattle.std.proofs.Common.{◌+◌, sym, subst}
use Rattle.fragment_cache.specs.Machine.{Airspace, Flights, NoneFlies}
use Rattle.fragment_cache.specs.Index.{Indexed}
use Rattle.fragment_cache.proofs.FlightLemmas.{number_for-none, Indexed-lead}
use Rattle.fragment_cache.proofs.flights.Flights.try_lead.Goals as goal

pub open-requires-clause-absent : goal.open-requires-clause-absent
open-requires-clause-absent c =
    number_for-none c.self.inside.flying c.self.inside.by_number.entries c.self.inside.next c.args.url.now c.self.invariant
    (subst (λ (a : Airspace). NoneFlies a.flights c.args.url.now) (sym c.self.view_is) c.requires.none)

pub invariant_of-self-2 : goal.invariant_of-self-2
invariant_of-self-2 c =
    subst (λ (fs : Flights). Indexed c.open.new.flying fs (c.self.inside.next + 1)) (sym c.in_ok-open.ensures.flights)
    (Indexed-lead c.self.inside.flying c.open.new.flying c.self.inside.by_number.entries c.self.inside.next c.self.invariant c.args.url.now
    (subst (λ (a : Airspace). NoneFlies a.flights c.args.url.now) (sym c.self.view_is) c.requires.none) c.in_ok-open.ensures.index)
