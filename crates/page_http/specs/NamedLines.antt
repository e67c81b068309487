-- The lines of a request whose fields have certain names (RFC 9110, section 5.2).
use Rattle.std.specs.Prelude.{ℕ, List, map, filter}
use Rattle.edge_types.specs.declared.head_fields.HeadField.{HeadField}
use Rattle.page_http.specs.Cookies.{is_member}
use Rattle.page_http.specs.declared.field.Field.{Field}

-- the same line
abbrev pub copy_of : Field → HeadField
copy_of field = record { name = field.name.now; value = field.value.now }

-- those whose name is a member of the list, as they came
abbrev pub lines_named : List ℕ → List Field → List HeadField
lines_named names fields = map copy_of (filter (λ (field : Field). is_member names field.name.now) fields)
