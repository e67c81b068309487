-- Which fault is reported of a page that wasn't assembled.
use Rattle.std.specs.Prelude.{Result, Ok, Err}
use Rattle.plan_runner.specs.Page.{Standing, Underway, Finished, Broken}
use Rattle.plan_runner.specs.declared.page.PostFault.{PostFault}
use Rattle.plan_runner.specs.declared.page.PostFault.TheVariants as refusal
use Rattle.fetch_workers.specs.declared.fault.AssembleFault.{AssembleFault}
use Rattle.fetch_workers.specs.declared.fault.AssembleFault.TheVariants.{NoMemory, NoThread, Torn}

-- of two faults the one that is named first
abbrev pub first_of : AssembleFault → AssembleFault → AssembleFault
first_of NoMemory other = NoMemory
first_of NoThread NoMemory = NoMemory
first_of NoThread NoThread = NoThread
first_of NoThread Torn = NoThread
first_of Torn other = other

-- why two threads together have no answers to show: by the first of their faults, and by running out of memory
-- where neither has one
abbrev pub fault_of_both : {X : Type 0} → Result X AssembleFault → Result X AssembleFault → AssembleFault
fault_of_both (Err one) (Err other) = first_of one other
fault_of_both (Err fault) (Ok more) = fault
fault_of_both (Ok all) (Err fault) = fault
fault_of_both (Ok all) (Ok more) = NoMemory

-- why a page has no outcome to show: it waits, though all workers have ended; or an allocation failed
abbrev pub fault_of_page : Standing → AssembleFault
fault_of_page Underway = Torn
fault_of_page (Finished outcome) = NoMemory
fault_of_page Broken = NoMemory

-- what a page's refusal of a receipt means: an allocation failed, or the receipt is another page's
abbrev pub fault_of_refusal : PostFault → AssembleFault
fault_of_refusal (refusal.Stranger receipt) = Torn
fault_of_refusal (refusal.NotClaimed receipt) = Torn
fault_of_refusal (refusal.Filled receipt) = Torn
fault_of_refusal refusal.NoMemory = NoMemory
fault_of_refusal (refusal.Broken receipt) = NoMemory
