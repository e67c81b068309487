-- The fields of an answer that its page's reader gets.
use Rattle.std.specs.Prelude.{◌≡◌, ℕ, ◌+◌, ◌≤◌, Bool, true, ◌&&◌, ◌||◌, not, ◌==◌, nat_le, List, length, All, sum_by}
use Rattle.std.specs.List.{list_all, list_any}
use Rattle.std.specs.Char.{is_ascii_uppercase}
use Rattle.std.specs.Cmp.Lexicographic.{pointwise}
use Rattle.edge_types.specs.Token.{is_token}
use Rattle.edge_types.specs.declared.head_fields.HeadField.{HeadField}

-- two fields are equal: their names are, and their values
abbrev pub field_eq : HeadField → HeadField → Bool
field_eq one other = pointwise ◌==◌ one.name other.name && pointwise ◌==◌ one.value other.value

-- the name of a field in lower case: a token (RFC 9110, section 5.1)
unfoldable pub is_field_name : List ℕ → Bool
is_field_name name = is_token name && not (list_any is_ascii_uppercase name)

-- a byte of a field's value: visible, past ASCII, a space or a tab (RFC 9110, section 5.5)
abbrev pub is_value_byte : ℕ → Bool
is_value_byte b = b == 9 || (nat_le 32 b && not (b == 127))

-- a field that HTTP can carry
pub record IsHeadField (field : HeadField) : Type 0 where
  pub name : is_field_name field.name ≡ true
  pub value : list_all is_value_byte field.value ≡ true

-- how many bytes names and values have together
abbrev pub size_of : List HeadField → ℕ
size_of fields = sum_by (λ (field : HeadField). length field.name + length field.value) fields

-- the fields that an answer may have: each can be carried, and together they have at most 8,192 bytes
pub record AreHeadFields (fields : List HeadField) : Type 0 where
  pub valid : All IsHeadField fields
  pub short : size_of fields ≤ 8192
