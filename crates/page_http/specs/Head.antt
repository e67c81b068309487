-- What the head of a request asks for: a page's URL, and what templates may ask for of the request.
use Rattle.std.specs.Prelude.{◌≡◌, IsTrue, ℕ, Bool, not, ◌&&◌, ◌||◌, ◌==◌, nat_lt, bytes_eq, List, [], ◌∷◌, ◌++◌, map, filter, length, codes, None, Some, if◌then◌else◌}
use Rattle.std.specs.Str.{byte}
use Rattle.std.specs.List.{before_first, join_by, list_all, list_any}
use Rattle.std.specs.Char.{is_ascii_alphanumeric, is_ascii_graphic}
use Rattle.edge_types.specs.Asked.{asked}
use Rattle.edge_types.specs.Query.{query_of}
use Rattle.edge_types.specs.Request.{line_name, request_saying}
use Rattle.edge_types.specs.declared.request.Request.{Request}
use Rattle.edge_types.specs.declared.request.RequestField.{RequestField}
use Rattle.edge_types.specs.declared.request.RequestField.TheVariants as header
use Rattle.page_http.specs.declared.field.Field.{Field}

-- the method that is served
abbrev pub served : List ℕ
served = codes "GET"

-- the values of the fields with a name, in order
abbrev pub values_of : List ℕ → List Field → List (List ℕ)
values_of name fields = map (λ field. field.value.now) (filter (λ field. bytes_eq field.name.now name) fields)

-- the first value, if there is one
abbrev pub first_or_empty : List (List ℕ) → List ℕ
first_or_empty [] = []
first_or_empty (value ∷ rest) = value

-- the value of a field whose first line counts; empty for an absent one
abbrev pub first_of : List ℕ → List Field → List ℕ
first_of name fields = first_or_empty (values_of name fields)

-- the lines of `Cookie` as one: pairs are separated by `; ` (RFC 6265, section 4.2.1)
abbrev pub cookies_of : List Field → List ℕ
cookies_of fields = join_by (λ line. line) (codes "; ") (values_of (codes "cookie") fields)

-- a letter, a digit, or one of the other bytes of a host's name or address and of its port
unfoldable pub is_host_byte : ℕ → Bool
is_host_byte b = is_ascii_alphanumeric b || list_any (λ mark. mark == b) (codes ".-_:[]")

-- one or more such bytes
unfoldable pub is_host : List ℕ → Bool
is_host text = nat_lt 0 (length text) && list_all is_host_byte text

-- a byte that a target may have before its query: a printable one of ASCII other than these (RFC 3986, section 2)
unfoldable pub is_target_byte : ℕ → Bool
is_target_byte b = is_ascii_graphic b && not (list_any (λ mark. mark == b) (codes "\"<>\\^`{|}"))

-- it has only such bytes before its first `?`: what reads it before the edge reads the same path (RFC 9112, section
-- 3.2). Behind that bytes are what browsers send
unfoldable pub is_target : List ℕ → Bool
is_target target = list_all is_target_byte (before_first (λ b. b == byte "?") target)

-- the target as a whole URL: one that begins with `/` comes after the scheme and the host,
-- any other denotes itself (RFC 9112, sections 3.2 and 3.3)
abbrev pub absolute_form : List ℕ → List ℕ → List ℕ
absolute_form host [] = []
absolute_form host (first ∷ rest) = if first == byte "/" then codes "http://" ++ host ++ first ∷ rest else first ∷ rest

-- what the head says of a field: the host, the lines of `Cookie` as one, and of any other the first line
abbrev pub field_said : List ℕ → List Field → RequestField → List ℕ
field_said host fields header.Host = host
field_said host fields header.Cookie = cookies_of fields
field_said host fields other = first_of (line_name other) fields

-- what templates may ask for of a request
abbrev pub said : List ℕ → List ℕ → List Field → Request
said host target fields = request_saying (field_said host fields) (query_of target)

-- the one `Host` is this one, and it has only bytes of a host (RFC 9112, section 3.2)
pub record NamesHost (fields : List Field) (host : List ℕ) : Type 0 where
  pub one : values_of (codes "host") fields ≡ host ∷ []
  pub legal : IsTrue (is_host host)

-- a target and fields ask for the page at a URL, with this request for its templates
pub record Asks (target : List ℕ) (fields : List Field) (url : List ℕ) (request : Request) : Type 0 where
  pub host : List ℕ
  pub named : NamesHost fields host
  pub spelled : IsTrue (is_target target)
  pub page : asked None (absolute_form host target) ≡ Some url
  pub says : request ≡ said host target fields
