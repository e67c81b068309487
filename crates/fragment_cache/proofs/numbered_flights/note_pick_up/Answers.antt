use Rattle.std.proofs.Common.{sym, ◌∙◌}
use Rattle.fragment_cache.specs.Machine.{same_number, one_more}
use Rattle.fragment_cache.proofs.FlightLemmas.{set_value-changed}
use Rattle.fragment_cache.proofs.numbered_flights.note_pick_up.Goals as goal

pub returns : goal.returns
returns c =
    (c.get_mut.follows.holds c.join.new.self).0
    ∙ set_value-changed (same_number c.args.number) one_more c.args.flights.now.entries c.in-Some.flight.now c.join.new.self (sym c.in-Some.ensures.value) c.join.ensures
