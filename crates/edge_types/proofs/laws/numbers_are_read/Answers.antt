use Rattle.edge_types.proofs.DecimalLemmas.{decimal_sound, decimal_complete}
use Rattle.edge_types.proofs.laws.numbers_are_read.Goals as goal

pub returns : goal.returns
returns c = λ text most n. (decimal_sound text most n, λ writes. decimal_complete text most n writes.0 writes.1)
