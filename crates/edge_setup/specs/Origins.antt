-- The origins that words name, as they are read one word at a time.
use Rattle.std.specs.Prelude.{Bool, bytes_eq, List, Option, Result, Ok, Err}
use Rattle.std.specs.List.{list_any}
use Rattle.std.specs.declared.alloc.Global.{Global}
use Rattle.std.specs.declared.vec.Vec.{Vec}
use Rattle.clap.specs.Words.{Text}
use Rattle.edge_setup.specs.Words.{IsOriginFault, SayOrigins, SayNoOrigins}
use Rattle.edge_setup.specs.declared.origin.OriginFault.{OriginFault}
use Rattle.edge_setup.specs.declared.setup.Origin.{Origin}

-- one of the origins has this authority
abbrev pub has : Text → List Origin → Bool
has authority origins = list_any (λ origin. bytes_eq origin.authority.items authority) origins

-- what was found is what the words of the option name, or what is wrong with them
abbrev pub AreFound : Option (List Text) → Result (Vec Origin Global) OriginFault → Type 0
AreFound words (Ok origins) = SayOrigins words origins.items
AreFound words (Err fault) = SayNoOrigins words × IsOriginFault words fault
