-- The lines of a request's head, as they are read.
use Rattle.std.specs.Prelude.{ℕ, List, map}
use Rattle.http_header.specs.FieldValue.{FieldValue}
use Rattle.http_header.specs.HeaderMap.{Entries, pairs}
use Rattle.page_http.specs.declared.field.Field.{Field}

-- a line: its name and its value
abbrev pub line : Field → List ℕ × List ℕ
line field = (field.name.now, field.value.now)

-- the line of a field of the request
abbrev pub line_of : List ℕ × FieldValue → List ℕ × List ℕ
line_of pair = (pair.0, pair.1.bytes)

-- the lines of all fields, those of one name together
abbrev pub lines_of : Entries FieldValue → List (List ℕ × List ℕ)
lines_of headers = map line_of (pairs headers)
