-- The validators of pages.
use Rattle.std.specs.Prelude.{ℕ, nat_eq, Bool, ◌&&◌, ◌||◌, not, ◌==◌, List, [], drop, codes, bytes_eq, Option, is_none, is_some, if◌then◌else◌}
use Rattle.std.specs.List.{list_any, slice_split, starts_with}
use Rattle.std.specs.Str.{byte}
use Rattle.http_header.specs.FieldValue.{FieldValue, plain_value}
use Rattle.http_header.specs.HeaderMap.{get, insert, remove}
use Rattle.edge_types.specs.Blanks.{trimmed}
use Rattle.access_log.specs.declared.record.Reason.{Reason}
use Rattle.page_http.specs.EntityTag.{entity_tag}
use Rattle.page_http.specs.Sent.{Sent}

-- a member of a list is any tag, or this one, weak or strong (RFC 9110, section 8.8.3.2)
unfoldable pub is_tag : List ℕ → List ℕ → Bool
is_tag tag member =
    bytes_eq (trimmed member) (codes "*") || bytes_eq (trimmed member) tag
    || (starts_with nat_eq (trimmed member) (codes "W/") && bytes_eq (drop 2 (trimmed member)) tag)

-- a list names the tag
abbrev pub names_tag : List ℕ → List ℕ → Bool
names_tag tag list = list_any (λ member. is_tag tag member) (slice_split (λ b. b == byte ",") list)

-- the client has what the tag is of: a line of `If-None-Match` names it (RFC 9110, section 13.1.2)
abbrev pub has_already : List ℕ → List FieldValue → Bool
has_already tag lines = list_any (λ (line : FieldValue). names_tag tag line.bytes) lines

-- a page as it should be, that has no tag of its origin's
abbrev pub is_to_be_tagged : Option Reason → Sent → Bool
is_to_be_tagged reason response = is_none reason && response.status == 200 && is_none (get response.fields (codes "etag"))

-- a page with this tag
abbrev pub tagged : List ℕ → Sent → Sent
tagged tag response = record response { fields = insert response.fields (codes "etag") (plain_value tag) }

-- what is sent in place of a page that the client has: its head but for its type (RFC 9110, section 15.4.5)
abbrev pub not_modified : Sent → Sent
not_modified response = record { status = 304; fields = remove response.fields (codes "content-type"); frames = [] }

-- a page with the tag of its bytes, or what is sent in its place
abbrev pub with_tag : List ℕ → List FieldValue → Sent → Sent
with_tag tag lines response = if has_already tag lines then not_modified (tagged tag response) else tagged tag response

-- what is sent for a request with these lines of `If-None-Match`, where pages have tags
abbrev pub validated : Option Reason → List FieldValue → Sent → Sent
validated reason lines response =
    if is_to_be_tagged reason response then with_tag (entity_tag response.frames) lines response else response

-- the same, where they may have some
abbrev pub finished : Bool → Option Reason → List FieldValue → Sent → Sent
finished gives_tags reason lines response = if gives_tags then validated reason lines response else response
