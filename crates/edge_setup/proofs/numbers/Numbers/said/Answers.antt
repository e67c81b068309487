use Rattle.std.proofs.Common.{◌≡◌, ◌∙◌, ap, true}
use Rattle.edge_setup.specs.Numbers.{fits, numbers, row_of}
use Rattle.edge_setup.specs.Said.{value_at}
use Rattle.edge_setup.proofs.NumberLemmas.{fits_at, if_few}
use Rattle.edge_setup.proofs.numbers.Numbers.said.Goals as goal

pub returns-clause-value : goal.returns-clause-value
returns-clause-value c = c.at.ensures ∙ ap (value_at c.args.self.now) c.place.ensures.place

pub returns-clause-fit : goal.returns-clause-fit
returns-clause-fit c = rw c.at.ensures (fits_at numbers c.args.self.now.values.items c.place.result c.args.number c.args.self.now.fit c.place.ensures.there)

pub returns-clause-few : goal.returns-clause-few
returns-clause-few c =
    let fit : fits (row_of c.args.number) c.at.result ≡ true = rw c.at.ensures (fits_at numbers c.args.self.now.values.items c.place.result c.args.number c.args.self.now.fit c.place.ensures.there) in
    if_few (row_of c.args.number) c.at.result fit
