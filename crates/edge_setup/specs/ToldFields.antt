-- The names of a reader's fields that the origins of private URLs are told.
use Rattle.std.specs.Prelude.{Bool, ◌&&◌, nat_le, List, length, Option, Some, None, option_map, if◌then◌else◌}
use Rattle.std.specs.List.{list_all, slice_split}
use Rattle.clap.specs.Words.{Row, Text}
use Rattle.edge_types.specs.Blanks.{trimmed}
use Rattle.edge_types.specs.Token.{is_token}
use Rattle.edge_setup.specs.CarriedNames.{lowered, may_carry}
use Rattle.edge_setup.specs.Lists.{is_comma}
use Rattle.edge_setup.specs.Options.{word_said}
use Rattle.edge_setup.specs.Private.{has_private}
use Rattle.edge_setup.specs.declared.word.Word.TheVariants as word

-- the name of a field that may be told: a token (RFC 9110, "Tokens") of at most 64 bytes that a request may carry
abbrev pub may_tell : Text → Bool
may_tell name = is_token name && nat_le (length name) 64 && may_carry name

-- such names, with commas between, and blanks around each
unfoldable pub are_told : Text → Bool
are_told text = list_all (λ name. may_tell (trimmed name)) (slice_split is_comma text)

-- the names that a word writes, where there are private URLs; without a word there are none
abbrev pub told_of : Bool → Option Text → Option (Option Text)
told_of is_private None = Some None
told_of is_private (Some word) = if is_private && are_told word then Some (Some word) else None

-- the names that the options give, as they are written, and in lower case
abbrev pub told_said : List Row → Option (Option Text)
told_said rows = told_of (has_private rows) (word_said word.ForwardFields rows)

abbrev pub lower_told : List Row → Option (Option Text)
lower_told rows = option_map (λ names. option_map lowered names) (told_said rows)
