use Rattle.std.proofs.Common.{◌∙◌}
use Rattle.std.proofs.lemmas.Map.Keys.{IsDistinct-from_sorted}
use Rattle.std.specs.BTreeMap.{keys}
use Rattle.std.specs.Ordering.{nat_cmp}
use Rattle.fragment_cache.specs.Machine.{same_number}
use Rattle.fragment_cache.proofs.EntryLemmas.{remove_entry-others}
use Rattle.fragment_cache.proofs.FlightLemmas.{exact_number}
use Rattle.fragment_cache.proofs.numbered_flights.take_out.Goals as goal

pub returns : goal.returns
returns c = c.remove.ensures.entries ∙ remove_entry-others same_number exact_number c.args.number c.args.flights.now.entries (IsDistinct-from_sorted nat_cmp (keys c.args.flights.now) c.ordered.ensures)
