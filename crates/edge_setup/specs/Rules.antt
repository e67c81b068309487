-- Options, by `clap`'s definitions.
use Rattle.std.specs.Prelude.{Bool, true, false, bytes_eq, [], ◌∷◌, codes, Option, Some}
use Rattle.std.specs.Option.{option_map_or}
use Rattle.clap.specs.Words.{Rule, Text, new_rule}
use Rattle.clap.specs.declared.builder.action.ArgAction.TheVariants.{Append, SetTrue}

-- an option `--NAME` with one word
abbrev pub named_option : Text → Rule
named_option name = record (new_rule name) { long = Some name; value_names = 1 }

-- such an option with a default
abbrev pub with_default : Text → Rule → Rule
with_default word option = record option { defaults = word ∷ [] }

-- the same, which has to be there
abbrev pub wanted : Rule → Rule
wanted option = record option { required = true }

-- such an option that may be given more than once
abbrev pub repeated : Rule → Rule
repeated option = record option { action = Some Append }

-- an option `--NAME` without a word
abbrev pub named_flag : Text → Rule
named_flag name = record (new_rule name) { long = Some name; action = Some SetTrue }

-- whether it is set, by its word
abbrev pub is_set : Option Text → Bool
is_set word = option_map_or (λ w. bytes_eq w (codes "true")) word false
