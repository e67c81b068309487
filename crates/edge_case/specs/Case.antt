-- What a case text denotes: a page's URL, a reader's request and the answers of origins.
use Rattle.std.specs.Prelude.{◌≡◌, ℕ, ◌≤◌, List, [], ◌∷◌, length, slice_get, unwrap_or, Option, Some, None}
use Rattle.edge_types.specs.declared.request.Request.{Request}
use Rattle.edge_types.specs.declared.request.RequestField.{RequestField}
use Rattle.edge_types.specs.Request.{place_of, request_saying}
use Rattle.edge_types.specs.Asked.{asked}
use Rattle.edge_types.specs.Answered.{Answered, IsAcceptable, failed, got}
use Rattle.edge_types.specs.Head.{head_of}
use Rattle.edge_types.specs.Query.{query_of}
use Rattle.edge_types.specs.Table.{IsTable}
use Rattle.surrogate_headers.specs.Control.{control_of}
use Rattle.surrogate_headers.specs.Capability.{own_device}
use Rattle.edge_case.specs.declared.case_text.Case.{Case}
use Rattle.edge_case.specs.declared.case_text.TheConstants.{MAX_CASE}
use Rattle.edge_case.specs.Document.{Heading, Entry, Failed, Got, Document, IsDocument, spelling}

-- the text of a line, empty if the line is absent
abbrev pub value_or_empty : Option (List ℕ) → List ℕ
value_or_empty value = unwrap_or value []

-- the text of a field's line, empty if the line is absent
abbrev pub value_of : List (Option (List ℕ)) → RequestField → List ℕ
value_of values field = value_or_empty (unwrap_or (slice_get values (place_of field)) None)

-- the request: its fields, and the query of the page's URL as it is written
abbrev pub request_of : Heading → Request
request_of h = request_saying (value_of h.values) (query_of h.page)

-- the device for which controls are read
abbrev pub device : List ℕ
device = own_device

-- what was fetched, within the limits of the edge, at a URL
pub record IsGot (status : ℕ) (u : List ℕ) (content_type control : Option (List ℕ)) (body : List ℕ) (answer : Answered) : Type 0 where
  pub acceptable : IsAcceptable 262144 (head_of status (value_or_empty content_type)) body
  pub says : answer ≡ got u (head_of status (value_or_empty content_type)) (control_of (value_or_empty control) device) body

-- a written answer denotes this one
abbrev pub Stands : Entry → Answered → Type 0
Stands (Failed url) answer = (asked None url ≡ Some answer.url) × (answer ≡ failed answer.url)
Stands (Got status url content_type control body) answer = (asked None url ≡ Some answer.url) × IsGot status answer.url content_type control body answer

-- each written answer denotes its answer, in order
abbrev pub StandEach : List Entry → List Answered → Type 0
StandEach [] [] = Unit {0}
StandEach [] (a ∷ answers) = ⊥
StandEach (e ∷ es) [] = ⊥
StandEach (e ∷ es) (a ∷ answers) = Stands e a × StandEach es answers

-- the text is a case text of this case
pub record IsCaseText (text : List ℕ) (case : Case) : Type 0 where
  pub short : length text ≤ MAX_CASE
  pub document : Document
  pub lines : IsDocument document
  pub spelled : text ≡ spelling document
  pub page : asked None document.heading.page ≡ Some case.url
  pub request : case.request ≡ request_of document.heading
  pub answers : StandEach document.entries case.table
  pub once : IsTable case.table
