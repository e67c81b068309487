-- Where the reading of a text as a test stops.
use Rattle.std.specs.Prelude.{ℕ, List, [], Result, Ok, Err}
use Rattle.esi_expr.specs.declared.stop.Wanted.TheVariants as wanted
use Rattle.esi_expr.specs.Tree.{Test}
use Rattle.esi_expr.specs.Reading.{Stopped, reading}

-- what is wanted, and the text from there on: at the end of a test an operator, which could go on
abbrev pub stopped : Result Test Stopped → Stopped
stopped (Ok test) = (wanted.Operator, [])
stopped (Err stop) = stop

unfoldable pub stop_of : List ℕ → Stopped
stop_of text = stopped (reading text)
