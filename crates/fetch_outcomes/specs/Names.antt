-- Why a fetch got no answer, in a word.
use Rattle.std.specs.Prelude.{ℕ, List, codes}
use Rattle.fetch_outcomes.specs.declared.fetch_fault.FetchFault.{FetchFault}
use Rattle.fetch_outcomes.specs.declared.fetch_fault.FetchFault.TheVariants as fault

-- the fault's name
abbrev pub name_of : FetchFault → List ℕ
name_of fault.NoOrigin = codes "no_origin"
name_of fault.TooMany = codes "too_many"
name_of fault.AtRest = codes "at_rest"
name_of fault.Connect = codes "connect"
name_of fault.Timeout = codes "timeout"
name_of fault.Cut = codes "cut"
name_of fault.TooLong = codes "too_long"
name_of fault.Coded = codes "coded"
name_of fault.Status = codes "status"
name_of fault.Fields = codes "fields"
