-- What an operator asks of a server by HTTP, and what is sent.
use Rattle.std.specs.Prelude.{◌≡◌, ℕ, true, ◌||◌, bytes_eq, List, [], ◌∷◌, ◌++◌, codes, decimal, length, ◌==◌, Option, None, Some, is_some, if◌then◌else◌}
use Rattle.http.specs.declared.response.Response.{Response}
use Rattle.http.specs.Response.{head_of, body_of}
use Rattle.http_body_util.specs.declared.full.Full.{Full}
use Rattle.http_header.specs.FieldValue.{FieldValue, plain_value}
use Rattle.http_header.specs.HeaderMap.{Entry, Entries}
use Rattle.operator_http.specs.declared.asked.Asked.{Asked}
use Rattle.operator_http.specs.declared.asked.Asked.TheVariants as asked
use Rattle.operator_http.specs.declared.health.Health.{Health}
use Rattle.operator_http.specs.declared.health.Health.TheVariants as health
use Rattle.operator_http.specs.declared.told.Told.{Told}
use Rattle.operator_http.specs.declared.told.Told.TheVariants as told
use Rattle.operator_http.specs.Purged.{purged_by}
use Rattle.operator_http.specs.Stopped.{grace_by}

-- what is asked for by a method that reads (RFC 9110, sections 9.3.1 and 9.3.2), and by POST (section 9.3.3)
abbrev pub if_read : List ℕ → Asked → Asked
if_read method wanted = if bytes_eq method (codes "GET") || bytes_eq method (codes "HEAD") then wanted else asked.NotRead

abbrev pub if_posted : List ℕ → Asked → Asked
if_posted method wanted = if bytes_eq method (codes "POST") then wanted else asked.NotPosted

-- what a method and a path ask for
abbrev pub asked_by : List ℕ → List ℕ → Asked
asked_by method path =
    if bytes_eq path (codes "/") then if_read method asked.Page
    else (if bytes_eq path (codes "/health") then if_read method asked.Health
    else (if bytes_eq path (codes "/metrics") then if_read method asked.Metrics
    else (if bytes_eq path (codes "/stop") then if_posted method asked.Stop
    else (if bytes_eq path (codes "/purge") then if_posted method asked.Purge
    else asked.OtherPath))))

-- what is told to a request for this, with this query
abbrev pub Fits : Asked → List ℕ → Told → Type 0
Fits wanted query (told.Page page) = wanted ≡ asked.Page
Fits wanted query (told.Health state) = wanted ≡ asked.Health
Fits wanted query (told.Metrics metrics) = wanted ≡ asked.Metrics
Fits wanted query told.Stopping = (wanted ≡ asked.Stop) × (is_some (grace_by query) ≡ true)
Fits wanted query told.NoGrace = (wanted ≡ asked.Stop) × (grace_by query ≡ None)
Fits wanted query (told.Purged count) = (wanted ≡ asked.Purge) × (is_some (purged_by query) ≡ true)
Fits wanted query told.NoPurge = (wanted ≡ asked.Purge) × (purged_by query ≡ None)
Fits wanted query told.OtherPath = wanted ≡ asked.OtherPath
Fits wanted query told.NotRead = wanted ≡ asked.NotRead
Fits wanted query told.NotPosted = wanted ≡ asked.NotPosted
Fits wanted query told.Foreign = wanted ≡ asked.Foreign

-- the type of the body
abbrev pub typed : FieldValue → Entry FieldValue
typed value = (codes "content-type", value ∷ [])

abbrev pub plain : Entry FieldValue
plain = typed (plain_value (codes "text/plain"))

-- the type of a page (RFC 2854, section 2)
abbrev pub of_page : Entry FieldValue
of_page = typed (plain_value (codes "text/html; charset=utf-8"))

-- the type of metrics (Prometheus, "Exposition formats", "Basic info")
abbrev pub of_metrics : Entry FieldValue
of_metrics = typed (plain_value (codes "text/plain; version=0.0.4; charset=utf-8"))

-- the methods that a path has (RFC 9110, section 10.2.1)
abbrev pub allow : FieldValue → Entry FieldValue
allow methods = (codes "allow", methods ∷ [])

-- the one piece of a body, unless that is empty
abbrev pub piece : List ℕ → Option (List ℕ)
piece text = if length text == 0 then None else Some text

-- what is sent: a status, fields, and a body
pub record Sends (status : ℕ) (fields : Entries FieldValue) (text : List ℕ) (response : Response (Full (List ℕ))) : Type 0 where
  pub status_is : (head_of response).status ≡ status
  pub fields_are : (head_of response).headers ≡ fields
  pub text_is : (body_of response).buf ≡ piece text

-- how many answers went
abbrev pub purged : ℕ → List ℕ
purged count = codes "purged " ++ decimal count ++ codes "\n"

-- it shows whether the server accepts clients (RFC 9110, sections 15.3.1 and 15.6.4)
abbrev pub Shows : Health → Response (Full (List ℕ)) → Type 0
Shows health.Well response = Sends 200 (plain ∷ []) (codes "ok\n") response
Shows health.Ending response = Sends 503 (plain ∷ []) (codes "ending\n") response
Shows health.AcceptsFailed response = Sends 503 (plain ∷ []) (codes "accepts failed\n") response

-- the response says this
abbrev pub Says : Told → Response (Full (List ℕ)) → Type 0
Says (told.Page page) response = Sends 200 (of_page ∷ []) page response
Says (told.Health state) response = Shows state response
Says (told.Metrics metrics) response = Sends 200 (of_metrics ∷ []) metrics response
Says told.Stopping response = Sends 200 (plain ∷ []) (codes "stopping\n") response
Says (told.Purged count) response = Sends 200 (plain ∷ []) (purged count) response
Says told.NoGrace response = Sends 400 (plain ∷ []) (codes "grace=SECONDS is wanted\n") response
Says told.NoPurge response = Sends 400 (plain ∷ []) (codes "url= or prefix= is wanted\n") response
Says told.OtherPath response = Sends 404 (plain ∷ []) (codes "not found\n") response
Says told.NotRead response = Sends 405 (plain ∷ allow (plain_value (codes "GET, HEAD")) ∷ []) (codes "method not allowed\n") response
Says told.NotPosted response = Sends 405 (plain ∷ allow (plain_value (codes "POST")) ∷ []) (codes "method not allowed\n") response
Says told.Foreign response = Sends 403 (plain ∷ []) (codes "forbidden: ask by an IP address, localhost or a name of --admin-host, and from no page of another site\n") response

-- the response says what fits
abbrev pub Answers : Asked → List ℕ → Response (Full (List ℕ)) → Type 0
Answers wanted query response = (said : Told) × Fits wanted query said × Says said response
