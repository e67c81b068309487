use Rattle.std.proofs.Common.{sym, ◌∙◌}
use Rattle.fragment_cache.specs.Machine.{same_number, landed_with}
use Rattle.fragment_cache.proofs.FlightLemmas.{set_value-changed}
use Rattle.fragment_cache.proofs.numbered_flights.put_answer.Goals as goal

pub returns : goal.returns
returns c =
    (c.get_mut.follows.holds c.land.new.self).0
    ∙ set_value-changed (same_number c.args.number) (landed_with c.args.answer) c.args.flights.now.entries c.in-Some.flight.now c.land.new.self (sym c.in-Some.ensures.value) c.land.ensures
