-- The header fields of a reader's request that templates can ask for. This is the one table of them.
use Rattle.std.specs.Prelude.{ℕ, List, [], ◌∷◌, codes}
use Rattle.edge_types.specs.declared.request.Request.{Request}
use Rattle.edge_types.specs.declared.request.RequestField.{RequestField}
use Rattle.edge_types.specs.declared.request.RequestField.TheVariants.{Host, Cookie, Referer, UserAgent, AcceptLanguage}

-- all of them, in the order in which a case text has their lines
abbrev pub request_fields : List RequestField
request_fields = Host ∷ Cookie ∷ Referer ∷ UserAgent ∷ AcceptLanguage ∷ []

-- the place of each in this order
abbrev pub place_of : RequestField → ℕ
place_of Host = 0
place_of Cookie = 1
place_of Referer = 2
place_of UserAgent = 3
place_of AcceptLanguage = 4

-- the name of its lines in the head of a request, in lower case
abbrev pub line_name : RequestField → List ℕ
line_name Host = codes "host"
line_name Cookie = codes "cookie"
line_name Referer = codes "referer"
line_name UserAgent = codes "user-agent"
line_name AcceptLanguage = codes "accept-language"

-- the word at the front of its line in a case text
abbrev pub heading_word : RequestField → List ℕ
heading_word Host = codes "host "
heading_word Cookie = codes "cookie "
heading_word Referer = codes "referer "
heading_word UserAgent = codes "agent "
heading_word AcceptLanguage = codes "language "

-- its value; an absent field is empty
abbrev pub field_of : Request → RequestField → List ℕ
field_of request Host = request.host
field_of request Cookie = request.cookie
field_of request Referer = request.referer
field_of request UserAgent = request.user_agent
field_of request AcceptLanguage = request.accept_language

-- the request that says this of each field, with a query
abbrev pub request_saying : (RequestField → List ℕ) → List ℕ → Request
request_saying said query = record {
  host = said Host;
  cookie = said Cookie;
  referer = said Referer;
  user_agent = said UserAgent;
  accept_language = said AcceptLanguage;
  query = query;
}

-- a request without fields and without a query
abbrev pub empty_request : Request
empty_request = request_saying (λ field. []) []
