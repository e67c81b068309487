-- References, and how they are spelled (ESI Language Specification 1.0, "Variables"; names, keys and defaults byte by
-- byte are our profile).
use Rattle.std.specs.Prelude.{◌≡◌, ◌⊎◌, ℕ, ◌<◌, Bool, not, ◌||◌, ◌==◌, List, [], ◌++◌, length, codes, bytes_eq, Option, Some, None, if◌then◌else◌}
use Rattle.std.specs.Str.{byte}
use Rattle.std.specs.List.{AllPass}
use Rattle.std.specs.Char.{is_ascii_alphanumeric, is_ascii_digit, char_set_contains}
use Rattle.edge_types.specs.declared.request.RequestField.{RequestField}
use Rattle.edge_types.specs.declared.request.RequestField.TheVariants as field
use Rattle.edge_types.specs.WhiteSpace.{is_ws}
use Rattle.esi_vars.specs.declared.reference.Variable.{Variable}
use Rattle.esi_vars.specs.declared.reference.Variable.TheVariants.{HttpAcceptLanguage, HttpCookie, HttpHost, HttpReferer, HttpUserAgent, QueryString, Unknown}
use Rattle.esi_vars.specs.declared.reference.Reference.{Reference}
use Rattle.esi_vars.specs.declared.bytes.ByteClass.{ByteClass}
use Rattle.esi_vars.specs.declared.bytes.ByteClass.TheVariants as class

-- a letter, a digit or `_`
abbrev pub is_name_byte : ℕ → Bool
is_name_byte b = is_ascii_alphanumeric b || b == byte "_"

-- a byte of a key: not white space, a brace, a parenthesis, a bar or a quotation mark
abbrev pub is_key_byte : ℕ → Bool
is_key_byte b = not (is_ws b || char_set_contains (codes "{}()|'\"") b)

-- a byte of a default without quotes: not white space, `'`, a parenthesis or `$`
abbrev pub is_default_byte : ℕ → Bool
is_default_byte b = not (is_ws b || char_set_contains (codes "'()$") b)

-- a digit or `.`
abbrev pub is_version_byte : ℕ → Bool
is_version_byte b = is_ascii_digit b || b == byte "."

-- the bytes of a class
abbrev pub allows : ByteClass → ℕ → Bool
allows class.Name = is_name_byte
allows class.Key = is_key_byte
allows class.Default = is_default_byte
allows class.Version = is_version_byte

-- a byte of a default in quotes
abbrev pub is_quoted_byte : ℕ → Bool
is_quoted_byte b = not (b == byte "'")

-- the variable with this name
unfoldable pub variable_of : List ℕ → Variable
variable_of name =
    if bytes_eq name (codes "HTTP_ACCEPT_LANGUAGE") then HttpAcceptLanguage
    else (if bytes_eq name (codes "HTTP_COOKIE") then HttpCookie
    else (if bytes_eq name (codes "HTTP_HOST") then HttpHost
    else (if bytes_eq name (codes "HTTP_REFERER") then HttpReferer
    else (if bytes_eq name (codes "HTTP_USER_AGENT") then HttpUserAgent
    else (if bytes_eq name (codes "QUERY_STRING") then QueryString
    else Unknown name)))))

-- the header field that a variable asks for, if it asks for one
abbrev pub field_asked : Variable → Option RequestField
field_asked HttpAcceptLanguage = Some field.AcceptLanguage
field_asked HttpCookie = Some field.Cookie
field_asked HttpHost = Some field.Host
field_asked HttpReferer = Some field.Referer
field_asked HttpUserAgent = Some field.UserAgent
field_asked QueryString = None
field_asked (Unknown name) = None

-- the names of all variables, as a message lists them
abbrev pub variable_names : List ℕ
variable_names = codes "HTTP_ACCEPT_LANGUAGE, HTTP_COOKIE, HTTP_HOST, HTTP_REFERER, HTTP_USER_AGENT and QUERY_STRING"

-- one byte or more, each of which passes
abbrev pub IsRun : (ℕ → Bool) → List ℕ → Type 0
IsRun p bytes = (0 < length bytes) × AllPass p bytes

-- `{key}` or `{'key'}`, or nothing
abbrev pub IsKey : Option (List ℕ) → List ℕ → Type 0
IsKey None piece = piece ≡ []
IsKey (Some key) piece =
    IsRun is_key_byte key × ((piece ≡ codes "{" ++ (key ++ codes "}")) ⊎ (piece ≡ codes "{'" ++ (key ++ codes "'}")))

-- `|default`, or `|'any bytes but a quote'`, or nothing
abbrev pub IsDefault : Option (List ℕ) → List ℕ → Type 0
IsDefault None piece = piece ≡ []
IsDefault (Some bytes) piece =
    (IsRun is_default_byte bytes × (piece ≡ codes "|" ++ bytes))
    ⊎ (AllPass is_quoted_byte bytes × (piece ≡ codes "|'" ++ (bytes ++ codes "'")))

-- the piece is a spelling of the reference: `$(`, a name, a key, a default and `)`
pub record IsReference (piece : List ℕ) (r : Reference) : Type 0 where
  pub name : List ℕ
  pub key : List ℕ
  pub default : List ℕ
  pub is_name : IsRun is_name_byte name
  pub names : variable_of name ≡ r.variable
  pub is_key : IsKey r.key key
  pub is_default : IsDefault r.default default
  pub whole : piece ≡ codes "$(" ++ (name ++ (key ++ (default ++ codes ")")))
