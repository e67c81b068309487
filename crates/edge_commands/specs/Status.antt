-- How the program ends: exit statuses, and the lines on standard error.
use Rattle.std.specs.Prelude.{ℕ, List, codes, Option, Some, None, Result, Ok, Err}
use Rattle.std.specs.declared.io.ErrorKind.{ErrorKind as IoErrorKind}
use Rattle.std.specs.declared.io.ErrorKind.TheVariants as io
use Rattle.edge_case.specs.declared.ending.CaseEnd.{CaseEnd}
use Rattle.edge_case.specs.declared.ending.CaseEnd.TheVariants.{PagePrinted, FaultPrinted}
use Rattle.edge_case.specs.declared.ending.CaseFault.{CaseFault}
use Rattle.edge_case.specs.declared.ending.CaseFault.TheVariants as fault
use Rattle.edge_setup.specs.Words.{refusal_of}
use Rattle.template_check.specs.declared.reporting.ReportFault.{ReportFault}
use Rattle.template_check.specs.declared.reporting.ReportFault.TheVariants as report
use Rattle.edge_commands.specs.declared.status.Status.{Status}
use Rattle.edge_commands.specs.declared.status.Status.TheVariants.{Page, PageFault, Served, Checked, FaultFound, Usage, BadOrder, BadOption, NotText, BadCase, NoMemory, InputOutput, AddressInUse, AddressDenied, UnknownHost}

-- the exit status
abbrev pub code_of : Status → ℕ
code_of Page = 0
code_of PageFault = 1
code_of Served = 0
code_of Checked = 0
code_of FaultFound = 1
code_of Usage = 2
code_of BadOrder = 2
code_of (BadOption option) = 2
code_of NotText = 2
code_of BadCase = 3
code_of NoMemory = 4
code_of InputOutput = 5
code_of AddressInUse = 5
code_of AddressDenied = 5
code_of UnknownHost = 5

-- the line on standard error, if the program itself writes one
abbrev pub line_of : Status → Option (List ℕ)
line_of Page = None
line_of PageFault = None
line_of Served = None
line_of Checked = None
line_of FaultFound = None
line_of Usage = None
line_of BadOrder = Some (codes "error: --order takes events with commas between: c, a, or p and one to four digits")
line_of (BadOption option) = Some (refusal_of option)
line_of NotText = Some (codes "error: a word of the command line isn't UTF-8")
line_of BadCase = Some (codes "bad case text")
line_of NoMemory = Some (codes "no memory")
line_of InputOutput = Some (codes "input or output failed")
line_of AddressInUse = Some (codes "error: the address of --listen or --admin is in use: another process listens there")
line_of AddressDenied = Some (codes "error: permission for the address of --listen or --admin is denied: a port below 1024 takes the right to it (CAP_NET_BIND_SERVICE)")
line_of UnknownHost = None

-- how the program ends after a case that was run
abbrev pub status_of : Result CaseEnd CaseFault → Status
status_of (Ok PagePrinted) = Page
status_of (Ok FaultPrinted) = PageFault
status_of (Err fault.BadCase) = BadCase
status_of (Err fault.NoMemory) = NoMemory
status_of (Err fault.Read) = InputOutput
status_of (Err fault.Write) = InputOutput

-- how it ends after a call of the system that failed
abbrev pub failed_as : IoErrorKind → Status
failed_as io.OutOfMemory = NoMemory
failed_as _ = InputOutput

-- how it ends where it can't listen: an address that another process has, and one that it may not have, are told apart
abbrev pub listening_status : IoErrorKind → Status
listening_status io.AddrInUse = AddressInUse
listening_status io.PermissionDenied = AddressDenied
listening_status kind = failed_as kind

-- how it ends where not everything could be reported of a template
abbrev pub unreported_as : ReportFault → Status
unreported_as report.NoMemory = NoMemory
unreported_as report.Write = InputOutput

-- how it ends if help was asked for, by whether that could be printed
abbrev pub help_status : {T E : Type 0} → Result T E → Status
help_status (Ok printed) = Page
help_status (Err e) = InputOutput
