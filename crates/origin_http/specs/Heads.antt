-- What the head of a response says of its body and its connection.
use Rattle.std.specs.Prelude.{◌≡◌, ◌≢◌, ℕ, Bool, false, not, ◌&&◌, ◌||◌, ◌==◌, nat_lt, List, length, codes}
use Rattle.std.specs.List.{list_any, slice_split}
use Rattle.std.specs.Str.{byte, str_eq_ignore_ascii_case}
use Rattle.edge_types.specs.Blanks.{trimmed}
use Rattle.http.specs.declared.response.Parts.{Parts}
use Rattle.http.specs.declared.version.TheConstants.Version.{HTTP_11}
use Rattle.http_header.specs.FieldValue.{FieldValue}
use Rattle.http_header.specs.HeaderMap.{Entries, get_all, ContainsKey}

-- an element, without the blanks at its ends, that isn't empty, and isn't this one, ignoring case
unfoldable pub is_other : List ℕ → List ℕ → Bool
is_other only element = nat_lt 0 (length (trimmed element)) && not (str_eq_ignore_ascii_case (trimmed element) only)

abbrev pub is_comma : ℕ → Bool
is_comma b = b == byte ","

-- some element of a list is another than this one
unfoldable pub names_other : List ℕ → List ℕ → Bool
names_other only list = list_any (λ element. is_other only element) (slice_split is_comma list)

-- some line of the field has such an element
abbrev pub has_other : List ℕ → List FieldValue → Bool
has_other only lines = list_any (λ (line : FieldValue). names_other only line.bytes) lines

-- the body is in a content coding (RFC 9110, "Content-Encoding")
abbrev pub has_content_coding : Entries FieldValue → Bool
has_content_coding fields = has_other (codes "identity") (get_all fields (codes "content-encoding"))

-- it is on its way in another coding than in chunks (RFC 9112, "Transfer-Encoding")
abbrev pub has_transfer_coding : Entries FieldValue → Bool
has_transfer_coding fields = has_other (codes "chunked") (get_all fields (codes "transfer-encoding"))

-- the edge can't read the body
unfoldable pub is_coded : Entries FieldValue → Bool
is_coded fields = has_content_coding fields || has_transfer_coding fields

-- the body has neither a length nor chunks, so only the close ends it (RFC 9112, "Message Body Length")
pub record EndsByClose (head : Parts) : Type 0 where
  pub may_have_body : (head.status ≢ 204) × (head.status ≢ 304)
  pub no_length : ¬ (ContainsKey head.headers (codes "content-length"))
  pub no_chunks : ¬ (ContainsKey head.headers (codes "transfer-encoding"))

-- an element, without the blanks at its ends, that is this word, ignoring case
unfoldable pub is_word : List ℕ → List ℕ → Bool
is_word word element = str_eq_ignore_ascii_case (trimmed element) word

-- some element of a list is this word
unfoldable pub names : List ℕ → List ℕ → Bool
names word list = list_any (λ element. is_word word element) (slice_split is_comma list)

-- the origin closes the connection (RFC 9110, "Connection")
abbrev pub asks_to_close : Entries FieldValue → Bool
asks_to_close fields = list_any (λ (line : FieldValue). names (codes "close") line.bytes) (get_all fields (codes "connection"))

-- the connection stays open behind the response (RFC 9112, "Persistence")
pub record StaysOpen (head : Parts) : Type 0 where
  pub version : head.version ≡ HTTP_11
  pub framed : ¬ (EndsByClose head)
  pub kept : asks_to_close head.headers ≡ false
