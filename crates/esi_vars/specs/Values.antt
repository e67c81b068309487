-- What references denote, and the text in which each is replaced by its value (ESI Language Specification 1.0,
-- "Variables"; the parts of fields are our profile).
use Rattle.std.specs.Prelude.{ℕ, Bool, nat_le, List, [], ◌∷◌, ◌++◌, length, Option, Some, None, option_map, unwrap_or, if◌then◌else◌}
use Rattle.std.specs.List.{flat_map}
use Rattle.edge_types.specs.declared.request.Request.{Request}
use Rattle.edge_types.specs.Request.{field_of}
use Rattle.esi_vars.specs.declared.reference.Variable.{Variable}
use Rattle.esi_vars.specs.declared.reference.Variable.TheVariants.{HttpAcceptLanguage, HttpCookie, HttpUserAgent, QueryString}
use Rattle.esi_vars.specs.declared.reference.Reference.{Reference}
use Rattle.esi_vars.specs.declared.lookups.Keyed.{Keyed}
use Rattle.esi_vars.specs.declared.lookups.Keyed.TheVariants as keyed
use Rattle.esi_vars.specs.declared.part.Part.{Part}
use Rattle.esi_vars.specs.declared.part.Part.TheVariants as part
use Rattle.esi_vars.specs.declared.pieces.TheConstants.{LONG_VALUE}
use Rattle.esi_vars.specs.Reference.{field_asked}
use Rattle.esi_vars.specs.Field.{cookie_value, query_value, language_value}
use Rattle.esi_vars.specs.Agent.{agent_value}
use Rattle.esi_vars.specs.Parts.{places_of}

-- what a variable asks of the request, if it asks for anything
abbrev pub asked_of : Request → Variable → Option (List ℕ)
asked_of request QueryString = Some request.query
asked_of request variable = option_map (field_of request) (field_asked variable)

-- a variable without a key: the whole of that
abbrev pub whole_value : Request → Variable → List ℕ
whole_value request variable = unwrap_or (asked_of request variable) []

-- the part of a field that a key names
abbrev pub value_in : Keyed → List ℕ → List ℕ → List ℕ
value_in keyed.Language key field = language_value key field
value_in keyed.Cookie key field = cookie_value key field
value_in keyed.Agent key field = agent_value key field
value_in keyed.Query key field = query_value key field

-- a variable with a key: the part of the field; only these four have parts
abbrev pub keyed_value : Request → Variable → List ℕ → List ℕ
keyed_value request HttpAcceptLanguage key = value_in keyed.Language key request.accept_language
keyed_value request HttpCookie key = value_in keyed.Cookie key request.cookie
keyed_value request HttpUserAgent key = value_in keyed.Agent key request.user_agent
keyed_value request QueryString key = value_in keyed.Query key request.query
keyed_value request _ key = []

-- what the request says, before any default is considered
abbrev pub raw_value : Request → Variable → Option (List ℕ) → List ℕ
raw_value request variable None = whole_value request variable
raw_value request variable (Some key) = keyed_value request variable key

-- the value, or the default if it is empty, or else nothing
abbrev pub or_default : List ℕ → Option (List ℕ) → List ℕ
or_default (b ∷ bs) default = b ∷ bs
or_default [] (Some default) = default
or_default [] None = []

-- the value of a reference
unfoldable pub value_of : Request → Reference → List ℕ
value_of request r = or_default (raw_value request r.variable r.key) r.default

-- text denotes itself, a reference its value
abbrev pub part_value : Request → Part → List ℕ
part_value request (part.Text bytes) = bytes
part_value request (part.Reference r) = value_of request r

-- the values of parts, one after another
unfoldable pub substituted : Request → List Part → List ℕ
substituted request parts = flat_map (part_value request) parts

-- a value that is a piece of a page by itself; a shorter one is joined with what is around it (our profile)
unfoldable pub is_long : List ℕ → Bool
is_long value = nat_le LONG_VALUE (length value)

-- the values of parts as the pieces of a page, with this run of short ones before them
abbrev pub value_pieces : Request → List ℕ → List Part → List (List ℕ)
value_pieces request run [] = run ∷ []
value_pieces request run (part ∷ parts) =
    if is_long (part_value request part)
    then run ∷ part_value request part ∷ value_pieces request [] parts
    else value_pieces request (run ++ part_value request part) parts

-- the text, if it is no longer than the limit
abbrev pub within : ℕ → List ℕ → Option (List ℕ)
within limit text = if nat_le (length text) limit then Some text else None

-- the text with each reference replaced by its value and every other byte as it is
unfoldable pub text_of : Request → List ℕ → List ℕ
text_of request text = substituted request (places_of text)
