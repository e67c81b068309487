-- The fields that each request to an origin carries, by the words of their option.
use Rattle.std.specs.Prelude.{◌≡◌, Bool, true, not, ◌&&◌, ◌==◌, List, [], map, length, Option, Some, None}
use Rattle.std.specs.List.{after_first, before_first, list_all}
use Rattle.std.specs.Str.{byte}
use Rattle.clap.specs.Words.{Row, Text}
use Rattle.edge_types.specs.Blanks.{trimmed}
use Rattle.edge_types.specs.HeadFields.{AreHeadFields}
use Rattle.edge_types.specs.declared.head_fields.HeadField.{HeadField}
use Rattle.edge_setup.specs.CarriedNames.{lowered, may_carry}
use Rattle.edge_setup.specs.Options.{all_words_said}
use Rattle.edge_setup.specs.declared.word.Word.TheVariants as word

-- the field that a word writes: its name is what stands before the first colon, in lower case, and its value what stands behind
-- that, without the blanks around it (RFC 9112, "Field Syntax")
abbrev pub field_in : Text → HeadField
field_in word = record { name = lowered (before_first (λ b. b == byte ":") word); value = trimmed (after_first (λ b. b == byte ":") word) }

-- the fields that the words of the option write, in order; without the option there are none
abbrev pub sent_of : Option (List Text) → List HeadField
sent_of None = []
sent_of (Some words) = map field_in words

-- the fields that the options give
abbrev pub sent_said : List Row → List HeadField
sent_said rows = sent_of (all_words_said word.SendFields rows)

-- a field with a value, and with a name that a request may carry
abbrev pub may_send : HeadField → Bool
may_send field = not (length field.value == 0) && may_carry field.name

-- each request may carry these fields: so may one field of each name, HTTP can carry each, and together they have at most
-- 8,192 bytes
pub record AreSent (fields : List HeadField) : Type 0 where
  pub carried : AreHeadFields fields
  pub allowed : list_all may_send fields ≡ true
