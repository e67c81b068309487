use Rattle.surrogate_headers.proofs.Sound.{sound}
use Rattle.surrogate_headers.proofs.Complete.{complete}
use Rattle.surrogate_headers.proofs.laws.directives_are_read_as_spelled.Goals as goal

pub returns : goal.returns
returns c = record { sound = sound; complete = complete }
