-- Pages that are for one reader alone.
use Rattle.std.specs.Prelude.{ℕ, Bool, List, codes, if◌then◌else◌}
use Rattle.http_header.specs.FieldValue.{FieldValue, plain_value}
use Rattle.http_header.specs.HeaderMap.{Entries, insert, remove}
use Rattle.edge_types.specs.Answered.{Answered}
use Rattle.page_http.specs.Sent.{Sent}

-- the answer is of a private URL
abbrev pub is_of_private : (List ℕ → Bool) → Answered → Bool
is_of_private private answer = private answer.url

-- the fields but for those that some caches heed before `cache-control` (RFC 9111, section 5.3; RFC 9213, section 3; nginx)
abbrev pub without_others : Entries FieldValue → Entries FieldValue
without_others fields = remove (remove (remove fields (codes "expires")) (codes "cdn-cache-control")) (codes "x-accel-expires")

-- the response, but it may be kept for nobody (RFC 9111, sections 5.2.2.7 and 5.2.2.4)
abbrev pub kept_to_reader : Sent → Sent
kept_to_reader response = record response {
  fields = insert (without_others response.fields) (codes "cache-control") (plain_value (codes "private, no-cache"));
}

-- what is sent of a response, where it may rest on a private answer
abbrev pub sent_of : Bool → Sent → Sent
sent_of private response = if private then kept_to_reader response else response
