-- What was said by the options that take a number, and by those without a value.
use Rattle.std.specs.Prelude.{◌≡◌, ℕ, Bool, false, List, map, Option, Some, option_and_then, slice_get, unwrap_or}
use Rattle.clap.specs.Words.{Row}
use Rattle.edge_setup.specs.Numbers.{all_said, numbers, place_of}
use Rattle.edge_setup.specs.Options.{all_flags_said, flag_place}
use Rattle.edge_setup.specs.declared.flag.Flag.{Flag}
use Rattle.edge_setup.specs.declared.flags.Flags.{Flags}
use Rattle.edge_setup.specs.declared.number.Number.{Number}
use Rattle.edge_setup.specs.declared.numbers.Numbers.{Numbers}

-- what was said of the option at a place
abbrev pub value_at : Numbers → ℕ → Option ℕ
value_at said place = option_and_then (λ value. value) (slice_get said.values.items place)

-- what was said of an option
abbrev pub value_of : Numbers → Number → Option ℕ
value_of said option = value_at said (place_of option)

-- the number of an option that has a default
abbrev pub number_of : Numbers → Number → ℕ
number_of said option = unwrap_or (value_of said option) 0

-- this is what each option says
abbrev pub SaysNumbers : List Row → Numbers → Type 0
SaysNumbers rows said = all_said rows numbers ≡ map Some said.values.items

-- an option without a value was set
abbrev pub is_asked : Flags → Flag → Bool
is_asked flags option = unwrap_or (slice_get flags.values.items (flag_place option)) false

-- this is what each of them says
abbrev pub SaysFlags : List Row → Flags → Type 0
SaysFlags rows flags = flags.values.items ≡ all_flags_said rows
