-- What a fetch results in.
use Rattle.std.specs.Prelude.{◌≡◌, ℕ, ◌<◌, ◌≤◌, ◌⊎◌, ⊤, Bool, true, false, ◌&&◌, ◌||◌, nat_le, List, [], length, codes, Option, Some, None, is_some, Result, IfOk, IsErr, MatchOption, if◌then◌else◌}
use Rattle.std.specs.List.{join_by}
use Rattle.edge_types.specs.Answered.{failed}
use Rattle.edge_types.specs.Head.{IsContentType, is_success}
use Rattle.edge_types.specs.HeadFields.{AreHeadFields}
use Rattle.edge_types.specs.declared.head.Head.{Head}
use Rattle.edge_types.specs.declared.head_fields.HeadField.{HeadField}
use Rattle.edge_types.specs.declared.answer.Reply.{Reply}
use Rattle.edge_types.specs.declared.answer.Reply.TheVariants.{Failed, Got}
use Rattle.edge_types.specs.declared.control.Control.{Control}
use Rattle.surrogate_headers.specs.CacheControl.{heeded}
use Rattle.surrogate_headers.specs.Control.{control_of}
use Rattle.http.specs.declared.response.Parts.{Parts}
use Rattle.http_header.specs.FieldValue.{FieldValue}
use Rattle.http_header.specs.HeaderMap.{Entries, get, get_all}
use Rattle.fetch_outcomes.specs.declared.lost.Lost.{Lost}
use Rattle.fetch_outcomes.specs.declared.lost.Lost.TheVariants.{Fault, NoMemory}
use Rattle.origin_http.specs.declared.head_rules.HeadRules.{HeadRules}
use Rattle.origin_http.specs.Heads.{EndsByClose, is_coded}
use Rattle.origin_http.specs.Passing.{fields_passed}
use Rattle.origin_http.specs.Lengths.{most_bytes, allow}
use Rattle.origin_http.specs.declared.answers.Fetched.{Fetched}
use Rattle.fetch_outcomes.specs.declared.fetch_fault.FetchFault.{FetchFault}

-- the failed answer of a URL, with the reason
abbrev pub lost_with : FetchFault → List ℕ → Fetched
lost_with fault url = record { answer = failed url; fault = Some fault }

-- a fetch that got no response: its answer is a failed one, for the same reason, unless memory ran out
abbrev pub AnswersLost : {E : Type 0} → Lost → List ℕ → Result Fetched E → Type 0
AnswersLost (Fault fault) url result = IfOk result (λ fetched. fetched ≡ lost_with fault url)
AnswersLost NoMemory url result = IsErr result

-- an answer that isn't a failed one
abbrev pub HasCome : Reply → Type 0
HasCome Failed = ⊥
HasCome (Got head control body) = ⊤

-- the answer is a failed one exactly where there is a reason
abbrev pub NamesFault : Fetched → Type 0
NamesFault fetched = MatchOption fetched.fault (HasCome fetched.answer.reply) (λ _. fetched.answer.reply ≡ Failed)

-- the body isn't coded, and no answer may have the status
pub record IsRefused (head : Parts) : Type 0 where
  pub plain : is_coded head.headers ≡ false
  pub status : (head.status < 200) ⊎ (599 < head.status)

-- what a reader is told by a content type: nothing if there is none, or if no answer may have it
abbrev pub SaysType : Option FieldValue → List ℕ → Type 0
SaysType None said = said ≡ []
SaysType (Some value) said = (IsContentType value.bytes × (said ≡ value.bytes)) ⊎ (¬ (IsContentType value.bytes) × (said ≡ []))

-- all lines of a field as one, separated by `, ` (RFC 9110, section 5.3)
abbrev pub value_of : List ℕ → Entries FieldValue → List ℕ
value_of name fields = join_by (λ (line : FieldValue). line.bytes) (codes ", ") (get_all fields name)

-- what the origin asks of a device
abbrev pub control_asked : Entries FieldValue → List ℕ → Control
control_asked fields device = control_of (value_of (codes "surrogate-control") fields) device

-- the response sets a cookie (RFC 6265, section 4.1)
abbrev pub sets_cookies : Entries FieldValue → Bool
sets_cookies fields = is_some (get fields (codes "set-cookie"))

-- the same, and what it asks of every cache, where that counts (RFC 9111, section 5.2)
abbrev pub control_heeded : HeadRules → Entries FieldValue → Control
control_heeded rules fields =
    if rules.heeds_cache_control
    then heeded (control_asked fields rules.device.now) (value_of (codes "cache-control") fields) (sets_cookies fields)
    else control_asked fields rules.device.now

-- but nothing is kept
abbrev pub never_stored : Control → Control
never_stored control = record control { no_store = true }

-- the status of an error (RFC 9110, sections 15.5 and 15.6)
abbrev pub is_error : ℕ → Bool
is_error status = nat_le 400 status && nat_le status 599

-- the same of a whole head, whose body may be a template under an error, if these rules say so
abbrev pub with_errors : Bool → Control → Control
with_errors errors control = record control { errors = errors }

abbrev pub control_said : HeadRules → Parts → Control
control_said rules parts = with_errors (rules.processes_errors && is_error parts.status) (control_heeded rules parts.headers)

-- what an answer with this head asks of the edge: never to be kept where nothing tells whether its body is whole
pub record IsControlFor (rules : HeadRules) (parts : Parts) (control : Control) : Type 0 where
  pub framed : ¬ (EndsByClose parts) → control ≡ control_said rules parts
  pub unframed : EndsByClose parts → control ≡ never_stored (control_said rules parts)

-- a body under this status is a template, where so much is asked
abbrev pub asks_processing : ℕ → Control → Bool
asks_processing status control = control.esi && (is_success status || control.errors)

-- the body is a template
abbrev pub is_template : HeadRules → Parts → Bool
is_template rules parts = asks_processing parts.status (control_said rules parts)

-- the fields that a page's reader gets
abbrev pub fields_for : HeadRules → Parts → List HeadField
fields_for rules parts = fields_passed rules (is_template rules parts) parts.headers

-- what the head of a response says to a page's reader
pub record SaysHead (rules : HeadRules) (parts : Parts) (head : Head) : Type 0 where
  pub status : head.status ≡ parts.status
  pub content_type : SaysType (get parts.headers (codes "content-type")) head.content_type
  pub fields : head.fields ≡ fields_for rules parts

-- a reply with what this head says, or a failure
abbrev pub HasHead : HeadRules → Reply → Parts → Type 0
HasHead rules Failed parts = ⊤
HasHead rules (Got head control body) parts = SaysHead rules parts head

-- a reply that may be kept as this head asks, or a failure
abbrev pub HasControl : HeadRules → Reply → Parts → Type 0
HasControl rules Failed parts = ⊤
HasControl rules (Got head control body) parts = IsControlFor rules parts control

-- a reply with these bytes as its body, no more than it may have, or a failure
abbrev pub HasBody : HeadRules → Reply → List ℕ → Type 0
HasBody rules Failed bytes = ⊤
HasBody rules (Got head control body) bytes = (body ≡ bytes) × (allow rules.limits (Got head control body) ≡ true)

-- an answer may have the head, but not so long a body
pub record IsTooLong (rules : HeadRules) (parts : Parts) (body : List ℕ) : Type 0 where
  pub plain : is_coded parts.headers ≡ false
  pub status_from : 200 ≤ parts.status
  pub status_to : parts.status ≤ 599
  pub fields : AreHeadFields (fields_for rules parts)
  pub long : most_bytes rules.limits (is_template rules parts) < length body

-- an answer may have the status, but not the fields
pub record IsOverfull (rules : HeadRules) (parts : Parts) : Type 0 where
  pub plain : is_coded parts.headers ≡ false
  pub status_from : 200 ≤ parts.status
  pub status_to : parts.status ≤ 599
  pub fields : ¬ (AreHeadFields (fields_for rules parts))
