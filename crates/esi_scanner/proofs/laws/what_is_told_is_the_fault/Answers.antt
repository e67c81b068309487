use Rattle.esi_scanner.proofs.Theorems.{scan_of-faults}
use Rattle.esi_scanner.proofs.laws.what_is_told_is_the_fault.Goals as goal

pub returns : goal.returns
returns c = scan_of-faults
