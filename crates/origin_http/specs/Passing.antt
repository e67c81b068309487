-- Which fields of a response a page's reader gets.
use Rattle.std.specs.Prelude.{ℕ, Bool, ◌&&◌, ◌||◌, not, List, map, filter, bytes_eq, codes}
use Rattle.http_header.specs.FieldValue.{FieldValue}
use Rattle.http_header.specs.HeaderMap.{Entries, pairs}
use Rattle.edge_types.specs.declared.head_fields.HeadField.{HeadField}
use Rattle.origin_http.specs.Heads.{names}
use Rattle.origin_http.specs.declared.head_rules.HeadRules.{HeadRules}

-- the fields that describe the very bytes of a body (RFC 9110, sections 8.8 and 14.3; RFC 9530; RFC 3230; RFC 1864)
abbrev pub describing : List ℕ
describing = codes "etag,last-modified,accept-ranges,content-md5,digest,content-digest,repr-digest"

-- the field sets a cookie (RFC 6265, section 4.1)
abbrev pub sets_cookie : List ℕ → Bool
sets_cookie name = bytes_eq name (codes "set-cookie")

-- a reader gets the field: its name is to be passed, it doesn't describe a template in place of the page that is made of it,
-- and sets no cookie but in a response that is for one reader alone
abbrev pub is_passed : HeadRules → Bool → List ℕ → Bool
is_passed rules is_template name =
    names name rules.passed.now && not (is_template && names name describing) && (rules.is_private || not (sets_cookie name))

-- a line of a field
abbrev pub field_of : List ℕ × FieldValue → HeadField
field_of line = record { name = line.0; value = line.1.bytes }

-- the lines that a reader gets, as they came
unfoldable pub fields_passed : HeadRules → Bool → Entries FieldValue → List HeadField
fields_passed rules is_template fields =
    map field_of (filter (λ (line : List ℕ × FieldValue). is_passed rules is_template line.0) (pairs fields))
