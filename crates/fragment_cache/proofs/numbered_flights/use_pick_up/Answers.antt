use Rattle.std.proofs.Common.{sym, ◌∙◌}
use Rattle.fragment_cache.specs.Machine.{same_number, one_fewer}
use Rattle.fragment_cache.proofs.FlightLemmas.{set_value-changed}
use Rattle.fragment_cache.proofs.numbered_flights.use_pick_up.Goals as goal

pub returns : goal.returns
returns c =
    (c.get_mut.follows.holds c.pick.new.self).0
    ∙ set_value-changed (same_number c.args.number) one_fewer c.args.flights.now.entries c.in-Some.flight.now c.pick.new.self (sym c.in-Some.ensures.value) c.pick.ensures
