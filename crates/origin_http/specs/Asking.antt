-- What origins are asked: the lines of a request, in their order.
use Rattle.std.specs.Prelude.{◌≡◌, ℕ, Bool, List, [], ◌∷◌, ◌++◌, map, codes, Option, Some, None, Result, IfOk, if◌then◌else◌}
use Rattle.http.specs.declared.error.Error.{Error}
use Rattle.http.specs.declared.request.Parts.{Parts}
use Rattle.http.specs.Steps.{StepsTo}
use Rattle.http_header.specs.FieldValue.{FieldValue, plain_value}
use Rattle.http_header.specs.HeaderMap.{Entries, append_all}
use Rattle.http_header.specs.Token.{lowercase}
use Rattle.edge_types.specs.declared.head_fields.HeadField.{HeadField}

-- a line of a request's head
abbrev pub Line : Type 0
Line = List ℕ × FieldValue

abbrev pub line : List ℕ → List ℕ → Line
line name value = (name, plain_value value)

abbrev pub line_of : HeadField → Line
line_of field = line (lowercase field.name) field.value

-- the head with these lines behind its own
abbrev pub with_lines : List Line → Parts → Parts
with_lines lines head = record head { headers = append_all head.headers lines }

-- a request that is built goes on with these lines
abbrev pub Adds : List Line → Result Parts Error → Result Parts Error → Type 0
Adds lines old new = StepsTo old new (λ before after. after ≡ with_lines lines before)

-- a request that is built has these lines
abbrev pub HasLines : List Line → Result Parts Error → Type 0
HasLines lines built = IfOk built (λ head. head.headers ≡ append_all [] lines)

-- whom it asks (RFC 9110, section 7.2)
abbrev pub host_lines : List ℕ → List Line
host_lines authority = line (codes "host") authority ∷ []

-- what this edge can do (Edge Architecture Specification 1.0, "Surrogate-Capability Request Header")
abbrev pub device_lines : List ℕ → List Line
device_lines capability = line (codes "surrogate-capability") capability ∷ []

-- what is to become of the connection (RFC 9112, section 9.6)
abbrev pub connection_lines : Bool → List Line
connection_lines keeps = if keeps then [] else line (codes "connection") (codes "close") ∷ []

-- no coding of the body is wanted (RFC 9110, section 12.5.3)
abbrev pub coding_lines : List Line
coding_lines = line (codes "accept-encoding") (codes "identity") ∷ []

-- the edges through which the request goes (RFC 8586, section 2): its way, or else the edge's name, if it has one
abbrev pub way_lines : Option (List ℕ) → Option (List ℕ) → List Line
way_lines (Some way) name = line (codes "cdn-loop") way ∷ []
way_lines None (Some name) = line (codes "cdn-loop") name ∷ []
way_lines None None = []

-- the lines of each request, in this order
abbrev pub own_lines : List ℕ → List ℕ → Bool → Option (List ℕ) → Option (List ℕ) → List Line
own_lines authority capability keeps way name =
    host_lines authority ++ device_lines capability ++ connection_lines keeps ++ coding_lines ++ way_lines way name
