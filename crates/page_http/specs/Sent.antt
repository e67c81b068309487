-- What is sent to a client.
use Rattle.std.specs.Prelude.{◌≡◌, ◌⊎◌, ℕ, ◌≤◌, Bool, ◌||◌, ◌==◌, List, [], ◌∷◌, map, All, codes, if◌then◌else◌}
use Rattle.http.specs.declared.response.Response.{Response}
use Rattle.http.specs.Response.{head_of, body_of}
use Rattle.http_header.specs.FieldValue.{FieldValue, plain_value, IsFieldValue}
use Rattle.http_header.specs.FieldName.{IsHeaderName}
use Rattle.http_header.specs.HeaderMap.{Entry, Entries, append_all}
use Rattle.edge_types.specs.declared.head.Head.{Head}
use Rattle.edge_types.specs.declared.head_fields.HeadField.{HeadField}
use Rattle.edge_types.specs.declared.outcome.Outcome.{Outcome}
use Rattle.edge_types.specs.declared.outcome.Outcome.TheVariants.{Page, Fault}

-- a response: its status, its fields, and the frames of its body
pub record Sent : Type 0 where
  pub status : ℕ
  pub fields : Entries FieldValue
  pub frames : List (List ℕ)

-- what is sent of a response
abbrev pub sent : Response (List (List ℕ)) → Sent
sent response = record { status = (head_of response).status; fields = (head_of response).headers; frames = body_of response }

-- a field that has one line
abbrev pub field : List ℕ → List ℕ → Entry FieldValue
field name value = (name, plain_value value ∷ [])

-- the field of a content type; none for an empty one
abbrev pub type_field : List ℕ → Entries FieldValue
type_field [] = []
type_field (byte ∷ bytes) = field (codes "content-type") (byte ∷ bytes) ∷ []

-- an answer of the edge's own: a plain text, and fields besides
abbrev pub own : ℕ → List ℕ → Entries FieldValue → Sent
own status text besides = record { status = status; fields = field (codes "content-type") (codes "text/plain") ∷ besides; frames = text ∷ [] }

-- the page could not be assembled (RFC 9110, section 15.6.3)
abbrev pub unassembled : Sent
unassembled = own 502 (codes "The page could not be assembled.\n") []

-- the statuses of refusals
abbrev pub IsRefusal : ℕ → Type 0
IsRefusal status = (status ≡ 400) ⊎ ((status ≡ 405) ⊎ ((status ≡ 508) ⊎ (status ≡ 503)))

-- what a refusal sends: 405 says which method is served, 508 that the request goes in a circle (RFC 9110, sections
-- 15.5.1, 15.5.6, 15.6.4; RFC 5842, section 7.2)
abbrev pub refusal : ℕ → Sent
refusal status =
    if status == 400 then own 400 (codes "The request can't be read.\n") [] else (
    if status == 405 then own 405 (codes "Only GET is served.\n") (field (codes "allow") (codes "GET") ∷ []) else (
    if status == 508 then own 508 (codes "The request has passed this edge before, or too many edges.\n") [] else
    own 503 (codes "The edge has no room for the page.\n") []))

-- a status under which no body is sent (RFC 9110, sections 15.3.5, 15.3.6 and 15.4.5)
abbrev pub is_bodiless : ℕ → Bool
is_bodiless status = status == 204 || status == 205 || status == 304

-- the name and the value of a further field
abbrev pub line_of : HeadField → List ℕ × FieldValue
line_of field = (field.name, plain_value field.value)

-- the fields of a page: its type, and a line for each further one, in order
abbrev pub page_fields : Head → Entries FieldValue
page_fields head = append_all (type_field head.content_type) (map line_of head.fields)

-- a page: the status and the fields of its head, and a frame for each piece of its body
abbrev pub page : Head → List (List ℕ) → Sent
page head pieces = record {
  status = head.status;
  fields = page_fields head;
  frames = if is_bodiless head.status then [] else pieces;
}

-- HTTP carries the field (RFC 9110, sections 5.1 and 5.5)
pub record IsLine (field : HeadField) : Type 0 where
  pub name : IsHeaderName field.name
  pub value : IsFieldValue field.value

-- HTTP carries the status as a final one, the type as a field's value, and each further field (RFC 9110, sections 15
-- and 5.5): so it does for each answer that the edge accepts
pub record IsSendable (head : Head) : Type 0 where
  pub status_from : 200 ≤ head.status
  pub status_to : head.status ≤ 599
  pub type_value : IsFieldValue head.content_type
  pub lines : All IsLine head.fields

-- a response reports an outcome: a page as it is, and a fault as there being no page. What
-- HTTP can't carry counts as a fault
abbrev pub Tells : Outcome → Sent → Type 0
Tells (Page head pieces) response =
    (IsSendable head × (response ≡ page head pieces))
    ⊎ (¬ (IsSendable head) × (response ≡ unassembled))
Tells (Fault fault) response = response ≡ unassembled
