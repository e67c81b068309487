use Rattle.std.proofs.Common.{ℕ, List, ◌∷◌, [], ◌++◌, Some, ◌≡◌, ◌∙◌, ap, subst}
use Rattle.fragment_cache.specs.Machine.{FlightState, departed}
use Rattle.fragment_cache.specs.Index.{Changes}
use Rattle.fragment_cache.proofs.FlightLemmas.{insert_entry-end, HaveSameNumbers-undone}
use Rattle.fragment_cache.proofs.flights.open.Goals as goal

pub returns-in-Ok-clause-flights : goal.returns-in-Ok-clause-flights
returns-in-Ok-clause-flights c =
    let same : c.departed-departed.result ≡ departed c.args.url.now = c.departed-departed.ensures ∙ ap departed c.in_ok-share.ensures in
    c.in-Ok.ensures.entries ∙ insert_entry-end c.args.number c.departed-departed.result c.args.by_number.now.entries c.requires.last ∙ ap (λ (f : FlightState). c.args.by_number.now.entries ++ (c.args.number, f) ∷ []) same

pub returns-clause-index_stays : goal.returns-clause-index_stays
returns-clause-index_stays c =
    HaveSameNumbers-undone c.args.flying.now c.insert.new.self c.remove.new.self c.args.url.now c.args.number c.requires.absent
    (subst (λ (url : List ℕ). Changes url (Some c.args.number) c.args.flying.now c.insert.new.self) c.in_ok-share-2.ensures c.in_ok-insert.ensures.updates.0)
    c.remove.ensures.updates.0
