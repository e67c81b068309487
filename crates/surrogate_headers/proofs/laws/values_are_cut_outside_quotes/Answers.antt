use Rattle.surrogate_headers.proofs.Parted.{is_cut, only_cut}
use Rattle.surrogate_headers.proofs.laws.values_are_cut_outside_quotes.Goals as goal

pub returns : goal.returns
returns c = record { is_cut = is_cut; only = only_cut }
