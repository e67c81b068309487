use Rattle.std.proofs.Common.{sym, subst, refl}
use Rattle.fragment_cache.specs.Machine.{Flights, one_more}
use Rattle.fragment_cache.specs.Index.{Indexed}
use Rattle.fragment_cache.proofs.FlightLemmas.{Indexed-picks}
use Rattle.fragment_cache.proofs.flights.Flights.join.Goals as goal

pub invariant_of-self : goal.invariant_of-self
invariant_of-self c =
    subst (λ (fs : Flights). Indexed c.self.inside.flying fs c.self.inside.next) (sym c.note_pick_up.ensures)
    (Indexed-picks c.self.inside.flying c.self.inside.by_number.entries c.self.inside.next c.args.number one_more (λ f. refl) (λ f named. named) c.self.invariant)
