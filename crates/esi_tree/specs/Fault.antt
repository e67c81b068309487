-- Faults of the tokens, as faults of the template.
use Rattle.esi_scanner.specs.declared.fault.ScanFault.{ScanFault}
use Rattle.esi_scanner.specs.declared.fault.ScanFault.TheVariants as scan
use Rattle.esi_tree.specs.declared.fault.TreeFault.{TreeFault}
use Rattle.esi_tree.specs.declared.fault.TreeFault.TheVariants.{Bad, NoMemory}

-- the same place, or out of memory as well
abbrev pub fault_of : ScanFault → TreeFault
fault_of (scan.Malformed at) = Bad at
fault_of scan.NoMemory = NoMemory
