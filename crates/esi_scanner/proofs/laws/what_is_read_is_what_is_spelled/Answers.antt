use Rattle.esi_scanner.proofs.Theorems.{scan_of-spells}
use Rattle.esi_scanner.proofs.laws.what_is_read_is_what_is_spelled.Goals as goal

pub returns : goal.returns
returns c = scan_of-spells
